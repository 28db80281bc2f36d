-- `receiver::Receiver::accept` meets its contract. Assumes nothing.
use Rattle.receiver.proofs.Steps.{no_p, over_p, bad_record, bad_buffer, as_checked, read_number, read_head}
use mathlib.Core.Path.{◌∙◌}
use Rattle.receiver.proofs.Receiver.accept.Goals.{then-p-eq0-via-then-p-eq0, then-p-eq0-via-else-p-eq0+then-p-gt255}
use Rattle.receiver.proofs.Receiver.accept.Goals as goal

pub returns-then-p-eq0-clause-number : goal.returns-then-p-eq0-clause-number
returns-then-p-eq0-clause-number c =
    elim c.then-p-eq0.branch [
      | then-p-eq0-via-then-p-eq0 w ↦ no_p _ _ _ _ w.if-p-eq0.true
      | then-p-eq0-via-else-p-eq0+then-p-gt255 w ↦ over_p _ _ _ _ w.if-p-eq0.false w.if-p-gt255.true
    ]

pub returns-then-is_broken-clause-number : goal.returns-then-is_broken-clause-number
returns-then-is_broken-clause-number c = bad_record _ _ _ _ c.if-p-eq0.false c.if-p-gt255.false _ c.is_broken.ensures c.if-is_broken.true

pub returns-then-room-ne16384-clause-number : goal.returns-then-room-ne16384-clause-number
returns-then-room-ne16384-clause-number c = bad_buffer _ _ _ _ c.if-p-eq0.false c.if-p-gt255.false _ c.is_broken.ensures c.if-is_broken.false c.if-room-ne16384.true

pub returns-clause-number : goal.returns-clause-number
returns-clause-number c =
    read_number _ _ _ c.read.ensures
    ∙ as_checked _ _ _ _ c.if-p-eq0.false c.if-p-gt255.false _ c.is_broken.ensures c.if-is_broken.false c.if-room-ne16384.false

pub returns-clause-head : goal.returns-clause-head
returns-clause-head c = read_head _ _ _ c.read.ensures
