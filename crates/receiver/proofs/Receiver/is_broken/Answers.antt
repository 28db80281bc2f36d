-- `receiver::Receiver::is_broken` meets its contract. Assumes nothing.
use borrow.Author.Rules.{rules}
use Rattle.receiver.specs.Receiver.{broken}
use Rattle.receiver.proofs.Receiver.is_broken.Goals as goal

pub returns-then-is_broken-3 : goal.returns-then-is_broken-3
unfolding broken
returns-then-is_broken-3 c = search rules

pub returns-else-is_broken-3 : goal.returns-else-is_broken-3
unfolding broken
returns-else-is_broken-3 c = search rules
