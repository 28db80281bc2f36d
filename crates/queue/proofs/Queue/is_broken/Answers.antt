-- `queue::Queue::is_broken` meets its contract. Assumes nothing.
use borrow.Author.Rules.{rules}
use native.Mathlib.Omega.{arith}
use Rattle.queue.proofs.Faults.{broken_count}
use Rattle.queue.proofs.Pass.{pass_none, pass_more, pass_empty, pass_some, pass_bytes}
use Rattle.queue.proofs.Queue.is_broken.Goals as goal

pub returns-then-n-gt8 : goal.returns-then-n-gt8
returns-then-n-gt8 c = search broken_count

pub loop-unit-init : goal.loop-unit-init
loop-unit-init c = search pass_none

pub returns-then-unit-eq0 : goal.returns-then-unit-eq0
returns-then-unit-eq0 c = search (pass_empty, rules)

pub loop-unit-preserved : goal.loop-unit-preserved
loop-unit-preserved c = pass_more _ _ _ _ c.loop-unit-test.true c.from-unsent.ensures (omega arith) c.if-unit-eq0.false c.loop-unit.invariant

pub is_over-requires : goal.is_over-requires
is_over-requires c = search (pass_some, pass_bytes, rules)
