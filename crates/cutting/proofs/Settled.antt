-- Each promise settles its call: two outcomes that meet it for the same input are equal (01, "Acceptance of the promises"). An input is the work
-- buffer before the call, the bytes held, the bytes needed and the block; what then stands in the buffer is told by the answer. Assumes nothing.
use Prim.Native.Nat.{ℕ}
use mathlib.Core.Path.{◌≡◌, sym, ap, ap₂, ◌∙◌}
use mathlib.Core.List.{List}
use lib.ListN.{length, take}
use Rattle.laws.specs.Settle.{Settles}
use Rattle.moves.specs.Moves.{placed}
use Rattle.cutting.specs.Gather.{missing}

pub gather : Settles (λ (i : List ℕ × ℕ × ℕ × List ℕ) (o : ℕ × List ℕ).
    (o.0 ≡ missing i.1 i.2 (length i.3)) × (o.1 ≡ placed i.0 i.1 (take o.0 i.3)))
gather i x y p q =
    let e : x.0 ≡ y.0 = p.0 ∙ sym q.0 in
    ap₂ (λ n s. (n, s)) e (p.1 ∙ ap (λ (n : ℕ). placed i.0 i.1 (take n i.3)) e ∙ sym q.1)
