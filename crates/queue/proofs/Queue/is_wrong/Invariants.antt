-- What the loop of `Queue.is_wrong` keeps. Assumes nothing.
use Rattle.queue.proofs.Pass.{Counted}
use Rattle.queue.proofs.Queue.is_wrong.Given as goal

abbrev pub invariant-loop-unit : goal.invariant-loop-unit
invariant-loop-unit l = Counted l.p l.units l.unit-index l.unsent l.sum
