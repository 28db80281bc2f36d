-- `receiver::Receiver::fresh` meets its contract. Assumes nothing.
use borrow.Author.Rules.{rules}
use Rattle.receiver.specs.Receiver.{fresh}
use Rattle.receiver.proofs.Receiver.fresh.Goals as goal

pub returns : goal.returns
unfolding fresh
returns c = search rules
