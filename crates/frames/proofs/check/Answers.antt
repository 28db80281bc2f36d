-- `frames::check` meets its contract. Assumes nothing.
use mathlib.Core.Path.{refl}
use Rattle.std.proofs.lemmas.Result.{err_from_is_err_and}
use Rattle.refusal.proofs.Numbers.{number_ne0}
use Rattle.frames.proofs.Ways.{build_1, build_stops, build_11, build_12, build_short, build_0}
use Rattle.frames.proofs.check.Goals as goal

pub returns-then-is_bad_capacity-is_any_long : goal.returns-then-is_bad_capacity-is_any_long
returns-then-is_bad_capacity-is_any_long c = build_1 _ c.args.d _ _ _ _ _ c.is_bad_capacity.ensures c.is_any_long.ensures c.if-is_bad_capacity-is_any_long.true

pub returns-in_err-handed_number : goal.returns-in_err-handed_number
returns-in_err-handed_number c =
    let p = err_from_is_err_and c.from_residual.result c.from_residual.ensures.1 in
    rw (p.1, p.2)
    (build_stops _ c.args.d _ _ _ _ _ c.is_bad_capacity.ensures c.is_any_long.ensures c.if-is_bad_capacity-is_any_long.false _ c.in_err-handed_number.ensures (number_ne0 _))

pub returns-then-not-is_filled : goal.returns-then-not-is_filled
returns-then-not-is_filled c =
    build_11 _ c.args.d _ _ _ _ _ c.is_bad_capacity.ensures c.is_any_long.ensures c.if-is_bad_capacity-is_any_long.false _ c.in_ok-handed_number.ensures refl _ c.is_filled.ensures
    c.if-not-is_filled.true

pub returns-then-capacity-used : goal.returns-then-capacity-used
returns-then-capacity-used c =
    build_12 _ c.args.d _ _ _ _ _ c.is_bad_capacity.ensures c.is_any_long.ensures c.if-is_bad_capacity-is_any_long.false _ c.in_ok-handed_number.ensures refl _ c.is_filled.ensures
    c.if-not-is_filled.false _ c.used.ensures c.if-capacity-used.true

pub returns-then-room-capacity : goal.returns-then-room-capacity
returns-then-room-capacity c =
    build_short _ c.args.d _ _ _ _ _ c.is_bad_capacity.ensures c.is_any_long.ensures c.if-is_bad_capacity-is_any_long.false _ c.in_ok-handed_number.ensures refl _ c.is_filled.ensures
    c.if-not-is_filled.false _ c.used.ensures c.if-capacity-used.false c.if-room-capacity.true

pub returns : goal.returns
returns c =
    build_0 _ c.args.d _ _ _ _ _ c.is_bad_capacity.ensures c.is_any_long.ensures c.if-is_bad_capacity-is_any_long.false _ c.in_ok-handed_number.ensures refl _ c.is_filled.ensures
    c.if-not-is_filled.false _ c.used.ensures c.if-capacity-used.false c.if-room-capacity.false
