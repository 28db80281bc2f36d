-- `items::size_at` meets its contract. Assumes nothing.
use native.Mathlib.Omega.{arith}
use Rattle.items.proofs.Passes.{rest_at, size_none, size_past, size_whole}
use Rattle.items.proofs.size_at.Goals as goal

pub returns-in_default : goal.returns-in_default
returns-in_default c = let h = c.in_default.ensures.lookup.0 in size_none _ _ (grind arith)

pub returns-then-rest-size : goal.returns-then-rest-size
returns-then-rest-size c =
    let g = c.in-Some.ensures.lookup.0 in
    size_past _ _ _ (rest_at _ _ _ g.0 g.2) _ _ c.read32.ensures c.bytes-size.ensures.0 c.if-rest-size.true

pub returns : goal.returns
returns c =
    let g = c.in-Some.ensures.lookup.0 in
    size_whole _ _ _ (rest_at _ _ _ g.0 g.2) _ _ c.read32.ensures c.bytes-size.ensures.0 c.if-rest-size.false
