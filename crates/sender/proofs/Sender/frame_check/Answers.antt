-- `sender::Sender::frame_check` meets its contract. Assumes nothing.
use mathlib.Core.Path.{◌∙◌}
use native.Mathlib.Omega.{arith}
use Rattle.std.proofs.lemmas.Result.{err_from_is_err_and}
use Rattle.refusal.specs.Refusal.{number_of}
use Rattle.refusal.proofs.Numbers.{number_ne0}
use Rattle.hand.proofs.Allowed.{only_13}
use Rattle.sender.proofs.Loading.{p_fits}
use Rattle.sender.proofs.Framing.{product_in}
use Rattle.sender.proofs.Checks.{frame_13, frame_17, frame_1, frame_1_late, frame_0}
use Rattle.sender.proofs.Sender.frame_check.Goals as goal
use Rattle.sender.proofs.Sender.frame_check.Goals.{then-room-ne12288-via-then-room-ne12288, then-room-ne12288-via-else-room-ne12288+then-size-settings}

pub returns-in_err-check : goal.returns-in_err-check
returns-in_err-check c =
    let p = err_from_is_err_and c.from_residual.result c.from_residual.ensures.1 in
    let k = number_of c.in_err-check.field-0.0 in
    rw (p.1, p.2) (only_13 _ k c.in_err-check.ensures (number_ne0 _) ∙ frame_13 _ _ _ _ k c.in_err-check.ensures (number_ne0 _))

pub overflow_cast-settings : goal.overflow_cast-settings
overflow_cast-settings c = omega (arith, p_fits _ c.in_ok-check.ensures)

pub returns-then-is_faulty : goal.returns-then-is_faulty
returns-then-is_faulty c = frame_17 _ _ _ _ c.in_ok-check.ensures _ c.is_faulty.ensures c.if-is_faulty.true

pub overflow_add-settings : goal.overflow_add-settings
overflow_add-settings c = omega (arith, p_fits _ c.in_ok-check.ensures)

pub overflow_mul-settings : goal.overflow_mul-settings
overflow_mul-settings c = omega (arith, product_in _ c.in_ok-check.ensures)

pub returns-then-room-ne12288 : goal.returns-then-room-ne12288
returns-then-room-ne12288 c =
    elim c.then-room-ne12288.branch [
      | then-room-ne12288-via-then-room-ne12288 w ↦ frame_1 _ _ _ _ c.in_ok-check.ensures _ c.is_faulty.ensures c.if-is_faulty.false w.if-room-ne12288.true
      | then-room-ne12288-via-else-room-ne12288+then-size-settings w ↦
          frame_1_late _ _ _ _ c.in_ok-check.ensures _ c.is_faulty.ensures c.if-is_faulty.false w.if-room-ne12288.false w.if-size-settings.true
    ]

pub returns : goal.returns
returns c = frame_0 _ _ _ _ c.in_ok-check.ensures _ c.is_faulty.ensures c.if-is_faulty.false c.if-room-ne12288.false c.if-size-settings.false
