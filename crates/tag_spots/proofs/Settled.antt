-- Each promise settles its call: two outcomes that meet it for the same input are equal (01, "Acceptance of the promises"). An input is the packet,
-- the names, the slots, and both lent slices before the call; an outcome is where the items stop, and the slices after it. Assumes nothing.
use Prim.Native.Nat.{ℕ}
use mathlib.Core.Path.{◌≡◌, sym, ap₂, ◌∙◌}
use mathlib.Core.List.{List}
use Rattle.laws.specs.Settle.{Settles}
use Rattle.laws.proofs.Settle.{settled_both}
use Rattle.items.specs.Items.{cut_of}
use Rattle.tag_spots.specs.Rows.{starts_for, bits_for}

pub find_all : Settles (λ (i : List ℕ × List ℕ × List ℕ × List ℕ × List ℕ) (o : ℕ × (List ℕ × List ℕ)).
    (o.0 ≡ (cut_of i.0).stop)
    × ((o.1.0 ≡ starts_for i.1 i.2 (cut_of i.0).items i.3 i.4) × (o.1.1 ≡ bits_for i.1 i.2 (cut_of i.0).items i.3 i.4)))
find_all i x y p q =
    ap₂
    (λ a m. (a, m))
    (p.0 ∙ sym q.0)
    (settled_both
    (λ (i : List ℕ × List ℕ × List ℕ × List ℕ × List ℕ). starts_for i.1 i.2 (cut_of i.0).items i.3 i.4)
    (λ i. bits_for i.1 i.2 (cut_of i.0).items i.3 i.4) i x.1 y.1 p.1 q.1)
