-- `receiver::Receiver::take` meets its contract. Assumes nothing.
use mathlib.Core.Path.{sym, ap, ◌∙◌}
use mathlib.Core.Bool.{◌&&◌}
use Rattle.receiver.proofs.Steps.{taken_is, buffer_is}
use Rattle.receiver.proofs.Receiver.take.Goals.{then-adds, else-adds, then-adds-2, else-adds-2}
use Rattle.receiver.proofs.Receiver.take.Goals as goal

pub returns-clause-value : goal.returns-clause-value
returns-clause-value c =
    let last = c.args.head.last in
    rw c.then_some.ensures (taken_is _ _ c.args.useful.now c.args.buffer.now _ _ c.requires _ c.from-id.ensures c.base-base.ensures.0 c.adds-adds.ensures _ _ _ c.after.ensures
    (elim c.if-adds-2.branch [
      | then-adds-2 w ↦ w.complete-is ∙ sym (ap (λ a. a && last) w.if-adds-2.true)
      | else-adds-2 w ↦ w.complete-is ∙ w.if-adds-2.false ∙ sym (ap (λ a. a && last) w.if-adds-2.false)
    ])
    c.dropped.ensures)

pub returns-clause-buffer_after : goal.returns-clause-buffer_after
returns-clause-buffer_after c =
    buffer_is _ _ c.args.useful.now c.args.buffer.now _ _ c.requires _ c.from-id.ensures c.base-base.ensures.0 c.adds-adds.ensures _
    (elim c.if-adds.branch [
      | then-adds w ↦ rw w.if-adds.true (w.buffer-is ∙ w.copy.ensures)
      | else-adds w ↦ rw w.if-adds.false w.buffer-is
    ])
