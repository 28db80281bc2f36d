-- Each promise of this crate settles its call, which answers nothing. Assumes nothing.
use Prim.Native.Nat.{ℕ}
use mathlib.Core.List.{List}
use mathlib.Core.Path.{◌≡◌}
use Rattle.laws.specs.Settle.{Settles}
use Rattle.laws.proofs.Settle.{settled}
use Rattle.ring.specs.Ring.{copied_out, copied_in}

-- an input is the ring, the place, the number of bytes, and the slice before the call
pub copied_out_law : Settles (λ (i : List ℕ × ℕ × ℕ × List ℕ) (o : List ℕ). o ≡ copied_out i.0 i.1 i.2 i.3)
copied_out_law = settled (λ i. copied_out i.0 i.1 i.2 i.3)

-- an input is the ring before the call, the place, and the bytes
pub copied_in_law : Settles (λ (i : List ℕ × ℕ × List ℕ) (o : List ℕ). o ≡ copied_in i.0 i.1 i.2)
copied_in_law = settled (λ i. copied_in i.0 i.1 i.2)
