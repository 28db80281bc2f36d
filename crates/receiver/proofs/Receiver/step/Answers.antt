-- `receiver::Receiver::step` meets its contract. Assumes nothing.
use native.Mathlib.Omega.{arith}
use Rattle.refusal.proofs.Numbers.{number_ne0}
use Rattle.receiver.proofs.Steps.{step_refused, step_sum, step_inside, step_ready, step_done}
use Rattle.receiver.proofs.Receiver.step.Goals.{then-head, else-head}
use Rattle.receiver.proofs.Receiver.step.Goals as goal

pub overflow_add-from : goal.overflow_add-from
overflow_add-from c = omega (arith, step_sum _ _ c.args.packet.now c.args.buffer.now c.in-Ok.head c.in-Ok.ensures.head c.in-Ok.ensures.number c.if-head.from (elim c.if-head.branch [ then-head w ↦ rw w.if-head.true w.from-is | else-head w ↦ rw w.if-head.false w.from-is ]))

pub slice_bounds-take-end : goal.slice_bounds-take-end
slice_bounds-take-end c = step_inside _ _ c.args.packet.now c.args.buffer.now c.in-Ok.head c.in-Ok.ensures.head c.in-Ok.ensures.number _ (elim c.if-head.branch [ then-head w ↦ rw w.if-head.true w.from-is | else-head w ↦ rw w.if-head.false w.from-is ])

pub take-requires : goal.take-requires
take-requires c = step_ready _ _ c.args.packet.now c.args.buffer.now c.in-Ok.head c.in-Ok.ensures.head c.in-Ok.ensures.number _ (elim c.if-head.branch [ then-head w ↦ rw w.if-head.true w.from-is | else-head w ↦ rw w.if-head.false w.from-is ])

pub returns-after-head : goal.returns-after-head
returns-after-head c =
    let both = step_done _ _ c.args.packet.now c.args.buffer.now c.in-Ok.head c.in-Ok.ensures.head c.in-Ok.ensures.number _ (elim c.if-head.branch [ then-head w ↦ rw w.if-head.true w.from-is | else-head w ↦ rw w.if-head.false w.from-is ]) _ _ c.take.ensures.value c.take.ensures.buffer_after in
    record { answer = both.0; values = both.1.0; memory = both.1.1 }

pub returns-in-Err : goal.returns-in-Err
returns-in-Err c =
    let both = step_refused _ _ c.args.packet.now c.args.buffer.now _ c.in-Err.ensures.number (number_ne0 _) in
    record { answer = both.0; values = both.1.0; memory = both.1.1 }
