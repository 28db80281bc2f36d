-- `layout_text::layout_of` meets its contract. Assumes nothing.
use Rattle.layout_text.proofs.Ways.{short, long, unfit, wrong_length, rest, placed_as}
use Rattle.layout_text.proofs.layout_of.Goals as goal

pub returns-then-input-lt2-clause-number : goal.returns-then-input-lt2-clause-number
returns-then-input-lt2-clause-number c = short _ c.if-input-lt2.true

pub returns-then-input-gt65528-clause-number : goal.returns-then-input-gt65528-clause-number
returns-then-input-gt65528-clause-number c = long _ c.if-input-lt2.false c.if-input-gt65528.true

pub returns-then-is_bad_capacity-clause-number : goal.returns-then-is_bad_capacity-clause-number
returns-then-is_bad_capacity-clause-number c =
    unfit _ c.if-input-lt2.false c.if-input-gt65528.false _ c.capacity_in-capacity.ensures _ c.is_bad_capacity.ensures c.if-is_bad_capacity.true

pub returns-then-not-is_value_length-clause-number : goal.returns-then-not-is_value_length-clause-number
returns-then-not-is_value_length-clause-number c =
    wrong_length _ c.if-input-lt2.false c.if-input-gt65528.false _ c.capacity_in-capacity.ensures _ c.is_bad_capacity.ensures c.if-is_bad_capacity.false
    _ c.value_in-value.ensures _ c.is_value_length.ensures c.if-not-is_value_length.true

pub returns : goal.returns
returns c =
    let e = rest _ c.if-input-lt2.false c.if-input-gt65528.false _ c.capacity_in-capacity.ensures _ c.is_bad_capacity.ensures c.if-is_bad_capacity.false
    _ c.value_in-value.ensures _ c.is_value_length.ensures c.if-not-is_value_length.false _ c.of_value.ensures _ c.layout.ensures in
    record { number = e; value = placed_as _ _ c.capacity_in-capacity.ensures _ c.value_in-value.ensures _ c.of_value.ensures _ c.layout.ensures }
