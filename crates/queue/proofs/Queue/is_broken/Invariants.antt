-- What the loop of `Queue.is_broken` keeps. Assumes nothing.
use Rattle.queue.proofs.Pass.{Pass}
use Rattle.queue.proofs.Queue.is_broken.Given as goal

abbrev pub invariant-loop-unit : goal.invariant-loop-unit
invariant-loop-unit l = Pass l.units l.unit-index l.unsent
