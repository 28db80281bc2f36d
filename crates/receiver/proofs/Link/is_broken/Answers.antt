-- `receiver::Link::is_broken` meets its contract. Assumes nothing.
use borrow.Author.Rules.{rules}
use Rattle.receiver.specs.Link.{broken_link}
use Rattle.receiver.proofs.Link.is_broken.Goals as goal

pub returns-then-self-gt7 : goal.returns-then-self-gt7
unfolding broken_link
returns-then-self-gt7 c = search rules

pub returns-then-self : goal.returns-then-self
unfolding broken_link
returns-then-self c = search rules

pub returns-else-self : goal.returns-else-self
unfolding broken_link
returns-else-self c = search rules
