-- `description::size_to_write` meets its contract. Assumes nothing.
use mathlib.Core.Path.{refl}
use native.Mathlib.Omega.{arith}
use Rattle.std.proofs.lemmas.Result.{err_from_is_err_and}
use Rattle.refusal.proofs.Numbers.{number_ne0}
use Rattle.description.proofs.Writing.{few, writing_stops, writing_short, writing_fits}
use Rattle.description.proofs.size_to_write.Goals as goal

pub returns-in_err-handed_number-clause-number : goal.returns-in_err-handed_number-clause-number
returns-in_err-handed_number-clause-number c =
    let p = err_from_is_err_and c.from_residual.result c.from_residual.ensures.1 in
    rw (p.1, p.2) (writing_stops _ _ _ _ c.in_err-handed_number.ensures _ _ (number_ne0 _))

pub overflow_mul-size : goal.overflow_mul-size
overflow_mul-size c = let h = few _ c.args.d _ _ c.in_ok-handed_number.ensures refl in omega arith

pub overflow_add-size : goal.overflow_add-size
overflow_add-size c = let h = few _ c.args.d _ _ c.in_ok-handed_number.ensures refl in omega arith

pub overflow_add-size-2 : goal.overflow_add-size-2
overflow_add-size-2 c = let h = few _ c.args.d _ _ c.in_ok-handed_number.ensures refl in omega arith

pub returns-then-room-size-clause-number : goal.returns-then-room-size-clause-number
returns-then-room-size-clause-number c = writing_short _ _ _ _ c.in_ok-handed_number.ensures _ _ refl c.if-room-size.true

pub returns-clause-number : goal.returns-clause-number
returns-clause-number c = writing_fits _ _ _ _ c.in_ok-handed_number.ensures _ _ refl c.if-room-size.false
