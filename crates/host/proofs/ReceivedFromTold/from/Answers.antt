-- `host::ReceivedFromTold::from` meets its contract. Assumes nothing.
use borrow.Author.Rules.{rules}
use Rattle.host.specs.Received.{received_by}
use Rattle.host.proofs.ReceivedFromTold.from.Goals as goal

pub returns-in-Ok-None : goal.returns-in-Ok-None
unfolding received_by
returns-in-Ok-None c = search rules

pub returns-in-Ok-Some : goal.returns-in-Ok-Some
unfolding received_by
returns-in-Ok-Some c = search rules

pub returns-in-Err : goal.returns-in-Err
unfolding received_by
returns-in-Err c = search rules
