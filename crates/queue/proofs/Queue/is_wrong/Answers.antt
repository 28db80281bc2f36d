-- `queue::Queue::is_wrong` meets its contract. Assumes nothing.
use borrow.Author.Rules.{rules}
use mathlib.Core.Path.{sym, ◌∙◌}
use native.Mathlib.Omega.{arith}
use Rattle.queue.proofs.Pass.{counted_none, counted_more, counted_some, counted_bytes, wrong_count_law, wrong_empty, wrong_sum, wrong_is}
use Rattle.queue.proofs.Queue.is_wrong.Goals as goal

pub returns-then-self-gt8 : goal.returns-then-self-gt8
returns-then-self-gt8 c = search wrong_count_law

pub loop-unit-init : goal.loop-unit-init
loop-unit-init c = search counted_none

pub returns-then-bytes-eq0 : goal.returns-then-bytes-eq0
returns-then-bytes-eq0 c = wrong_empty _ _ _ _ c.loop-unit-test.true (sym c.from-bytes.ensures ∙ c.if-bytes-eq0.true)

pub loop-unit-preserved : goal.loop-unit-preserved
loop-unit-preserved c =
    let k = c.packets_of-sum.ensures in
    counted_more _ _ _ _ _ _ _ c.loop-unit-test.true c.from-bytes.ensures (omega arith) (λ z. c.if-bytes-eq0.false (c.from-bytes.ensures ∙ z)) k.0 k.1 c.loop-unit.invariant

pub is_over-requires : goal.is_over-requires
is_over-requires c = (search rules, search (counted_some, rules), search (counted_bytes, rules))

pub returns-then-from-sum : goal.returns-then-from-sum
returns-then-from-sum c = search (wrong_sum, rules)

pub returns-else-from-sum : goal.returns-else-from-sum
returns-else-from-sum c = search (wrong_is, rules)
