-- What the loop of `Queue.unsent` keeps. Assumes nothing.
use Rattle.queue.specs.Queue.{same}
use Rattle.queue.proofs.Sums.{Summed}
use Rattle.queue.proofs.Queue.unsent.Given as goal

abbrev pub invariant-loop-unit : goal.invariant-loop-unit
invariant-loop-unit l = Summed same l.units l.unit-index l.bytes
