-- `receiver::is_null` meets its contract. Assumes nothing.
use borrow.Author.Rules.{rules}
use Rattle.receiver.specs.Link.{null_of}
use Rattle.receiver.proofs.is_null.Goals as goal

pub returns-then-head-2 : goal.returns-then-head-2
unfolding null_of
returns-then-head-2 c = search rules

pub returns-else-head-2 : goal.returns-else-head-2
unfolding null_of
returns-else-head-2 c = search rules
