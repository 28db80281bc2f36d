-- `items::value` meets its contract. Assumes nothing.
use native.Mathlib.Omega.{arith}
use Rattle.items.proofs.Passes.{rest_at, value_out, value_in}
use Rattle.items.proofs.value.Goals as goal
use Rattle.items.proofs.value.Goals.{in_default-via-in-Some+else-size-rest, in_default-via-in_default}

pub returns-in-Some : goal.returns-in-Some
returns-in-Some c =
    let g = c.in-Some.ensures.lookup.0 in
    let l = g.3 in
    value_in _ _ _ c.bytes-size.ensures.0 (omega (arith, c.if-size-rest.true)) _ (rest_at _ _ _ g.0 g.2)

pub returns-in_default : goal.returns-in_default
returns-in_default c =
    elim c.in_default.branch [
      | in_default-via-in-Some+else-size-rest w ↦ (let l = w.in-Some.ensures.lookup.0.3 in value_out _ _ _ c.bytes-size.ensures.0 (omega (arith, w.if-size-rest.false)))
      | in_default-via-in_default w ↦ (let h = w.in_default.ensures.lookup.0 in value_out _ _ _ c.bytes-size.ensures.0 (grind arith))
    ]
