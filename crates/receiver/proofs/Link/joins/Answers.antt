-- `receiver::Link::joins` meets its contract. Assumes nothing.
use borrow.Author.Rules.{rules}
use Rattle.receiver.specs.Link.{joins}
use Rattle.receiver.proofs.Link.joins.Goals as goal

pub returns-then-head : goal.returns-then-head
unfolding joins
returns-then-head c = search rules

pub returns-else-head : goal.returns-else-head
unfolding joins
returns-else-head c = search rules

pub returns-else-not-is_null : goal.returns-else-not-is_null
unfolding joins
returns-else-not-is_null c = search rules
