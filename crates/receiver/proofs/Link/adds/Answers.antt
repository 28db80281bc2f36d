-- `receiver::Link::adds` meets its contract. Assumes nothing.
use borrow.Author.Rules.{rules}
use Rattle.receiver.specs.Link.{adds}
use Rattle.receiver.proofs.Link.adds.Goals as goal

pub returns-then-joins : goal.returns-then-joins
unfolding adds
returns-then-joins c = search rules

pub returns-else-joins : goal.returns-else-joins
unfolding adds
returns-else-joins c = search rules
