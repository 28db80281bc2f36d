-- What the loop of `Sender.is_faulty` keeps. Assumes nothing.
use Rattle.sender.proofs.Checks.{Looked}
use Rattle.sender.proofs.Sender.is_faulty.Given as goal

abbrev pub invariant-loop-id : goal.invariant-loop-id
invariant-loop-id l = Looked l.p l.self l.id
