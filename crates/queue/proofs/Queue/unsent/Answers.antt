-- `queue::Queue::unsent` meets its contract. Assumes nothing.
use borrow.Author.Rules.{rules}
use mathlib.Core.Path.{refl}
use native.Mathlib.Omega.{arith}
use Rattle.queue.proofs.Sums.{summed_none, summed_more, summed_bytes}
use Rattle.queue.proofs.Queue.unsent.Goals as goal

pub loop-unit-init : goal.loop-unit-init
loop-unit-init c = search summed_none

pub loop-unit-preserved : goal.loop-unit-preserved
loop-unit-preserved c = summed_more _ _ _ _ _ _ c.loop-unit-test.true c.from-bytes.ensures refl (omega arith) c.loop-unit.invariant

pub returns : goal.returns
returns c = search (summed_bytes, rules)
