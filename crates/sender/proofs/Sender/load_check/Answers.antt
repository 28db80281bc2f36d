-- `sender::Sender::load_check` meets its contract. Assumes nothing.
use mathlib.Core.Path.{◌∙◌}
use native.Mathlib.Omega.{arith}
use Rattle.std.proofs.lemmas.Result.{err_from_is_err_and}
use Rattle.refusal.specs.Refusal.{number_of}
use Rattle.refusal.proofs.Numbers.{number_ne0}
use Rattle.hand.proofs.Allowed.{only_13}
use Rattle.sender.proofs.Loading.{p_fits}
use Rattle.sender.proofs.Checks.{load_13, load_17, load_1, load_1_unit, load_14_empty, load_14_long, load_14_id, load_0}
use Rattle.sender.proofs.Sender.load_check.Goals as goal
use Rattle.sender.proofs.Sender.load_check.Goals.{then-room-ne12288-via-then-room-ne12288, then-room-ne12288-via-else-room-ne12288+then-n-gt65528, then-n-eq0-via-then-n-eq0, then-n-eq0-via-else-n-eq0+then-n-gt4096, then-n-eq0-via-else-n-eq0+else-n-gt4096+then-id-gt2}

pub returns-in_err-check : goal.returns-in_err-check
returns-in_err-check c =
    let p = err_from_is_err_and c.from_residual.result c.from_residual.ensures.1 in
    let k = number_of c.in_err-check.field-0.0 in
    rw (p.1, p.2) (only_13 _ k c.in_err-check.ensures (number_ne0 _) ∙ load_13 _ _ _ _ _ k c.in_err-check.ensures (number_ne0 _))

pub overflow_cast-settings : goal.overflow_cast-settings
overflow_cast-settings c = omega (arith, p_fits _ c.in_ok-check.ensures)

pub returns-then-is_faulty : goal.returns-then-is_faulty
returns-then-is_faulty c = load_17 _ _ _ _ _ c.in_ok-check.ensures _ c.is_faulty.ensures c.if-is_faulty.true

pub returns-then-room-ne12288 : goal.returns-then-room-ne12288
returns-then-room-ne12288 c =
    elim c.then-room-ne12288.branch [
      | then-room-ne12288-via-then-room-ne12288 w ↦ load_1 _ _ _ _ _ c.in_ok-check.ensures _ c.is_faulty.ensures c.if-is_faulty.false w.if-room-ne12288.true
      | then-room-ne12288-via-else-room-ne12288+then-n-gt65528 w ↦
          load_1_unit _ _ _ _ _ c.in_ok-check.ensures _ c.is_faulty.ensures c.if-is_faulty.false w.if-room-ne12288.false w.if-n-gt65528.true
    ]

pub returns-then-n-eq0 : goal.returns-then-n-eq0
returns-then-n-eq0 c =
    elim c.then-n-eq0.branch [
      | then-n-eq0-via-then-n-eq0 w ↦
          load_14_empty _ _ _ _ _ c.in_ok-check.ensures _ c.is_faulty.ensures c.if-is_faulty.false c.if-room-ne12288.false c.if-n-gt65528.false w.if-n-eq0.true
      | then-n-eq0-via-else-n-eq0+then-n-gt4096 w ↦
          load_14_long _ _ _ _ _ c.in_ok-check.ensures _ c.is_faulty.ensures c.if-is_faulty.false c.if-room-ne12288.false c.if-n-gt65528.false w.if-n-eq0.false w.if-n-gt4096.true
      | then-n-eq0-via-else-n-eq0+else-n-gt4096+then-id-gt2 w ↦
          load_14_id _ _ _ _ _ c.in_ok-check.ensures _ c.is_faulty.ensures c.if-is_faulty.false c.if-room-ne12288.false c.if-n-gt65528.false w.if-n-eq0.false w.if-n-gt4096.false w.if-id-gt2.true
    ]

pub returns : goal.returns
returns c =
    load_0 _ _ _ _ _ c.in_ok-check.ensures _ c.is_faulty.ensures c.if-is_faulty.false c.if-room-ne12288.false c.if-n-gt65528.false c.if-n-eq0.false c.if-n-gt4096.false c.if-id-gt2.false
