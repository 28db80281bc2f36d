-- `receiver::Link::is_kept` meets its contract. Assumes nothing.
use borrow.Author.Rules.{rules}
use Rattle.receiver.specs.Link.{kept}
use Rattle.receiver.proofs.Link.is_kept.Goals as goal

pub returns-then-not-self : goal.returns-then-not-self
unfolding kept
returns-then-not-self c = search rules

pub returns-else-not-self : goal.returns-else-not-self
unfolding kept
returns-else-not-self c = search rules

pub returns-else-self : goal.returns-else-self
unfolding kept
returns-else-self c = search rules
