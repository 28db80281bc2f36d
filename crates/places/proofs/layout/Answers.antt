-- `places::layout` meets its contract. Assumes nothing.
use mathlib.Core.Path.{refl}
use Rattle.description.proofs.Tests.{sized}
use Rattle.std.proofs.lemmas.Result.{err_from_is_err_and}
use Rattle.refusal.proofs.Numbers.{number_ne0}
use Rattle.places.proofs.Placing.{eight_long, layout_1, layout_stops, layout_12, layout_0, parts_law, layout_refused, layout_done}
use Rattle.places.proofs.layout.Goals as goal

pub returns-then-is_bad_capacity : goal.returns-then-is_bad_capacity
returns-then-is_bad_capacity c = layout_refused _ c.args.d _ _ (layout_1 _ c.args.d _ _ c.is_bad_capacity.ensures c.if-is_bad_capacity.true) (λ e. cc)

pub returns-in_err-handed_number : goal.returns-in_err-handed_number
returns-in_err-handed_number c =
    let p = err_from_is_err_and c.from_residual.result c.from_residual.ensures.1 in
    rw (p.1, p.2)
    (layout_refused _ c.args.d _ _ (layout_stops _ c.args.d _ _ c.is_bad_capacity.ensures c.if-is_bad_capacity.false _ c.in_err-handed_number.ensures (number_ne0 _)) (number_ne0 _))

pub returns-then-capacity-at : goal.returns-then-capacity-at
returns-then-capacity-at c =
    layout_refused _ c.args.d _ _
    (layout_12 _ c.args.d _ _ c.is_bad_capacity.ensures c.if-is_bad_capacity.false _ c.in_ok-handed_number.ensures refl _ c.used-at.ensures c.if-capacity-at.true) (λ e. cc)

pub parts-requires : goal.parts-requires
parts-requires c = eight_long c.args.d _ (search sized) c.lengths.ensures

pub returns : goal.returns
returns c =
    layout_done _ c.args.d _ _
    (layout_0 _ c.args.d _ _ c.is_bad_capacity.ensures c.if-is_bad_capacity.false _ c.in_ok-handed_number.ensures refl _ c.used-at.ensures c.if-capacity-at.false)
    refl _ _ (parts_law c.args.d _ _ c.lengths.ensures c.parts.ensures) c.used-at.ensures
