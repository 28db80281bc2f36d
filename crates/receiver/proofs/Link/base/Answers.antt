-- `receiver::Link::base` meets its contract. Assumes nothing.
use borrow.Author.Rules.{rules}
use Rattle.receiver.specs.Link.{base_of}
use Rattle.receiver.proofs.Link.base.Goals as goal

pub returns-then-first : goal.returns-then-first
unfolding base_of
returns-then-first c = search rules

pub returns-else-first : goal.returns-else-first
unfolding base_of
returns-else-first c = search rules
