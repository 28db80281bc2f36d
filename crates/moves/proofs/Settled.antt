-- Each promise of this crate settles its call. Assumes nothing.
use Prim.Native.Nat.{ℕ}
use mathlib.Core.List.{List}
use mathlib.Core.Path.{◌≡◌}
use lib.ListN.{replicate}
use Rattle.laws.specs.Settle.{Settles}
use Rattle.laws.proofs.Settle.{settled, settled_both}
use Rattle.moves.specs.Moves.{placed, behind}

-- `copy` and `clear` answer nothing; an input is the slice before the call and what the call is handed
pub copied : Settles (λ (i : List ℕ × ℕ × List ℕ) (o : List ℕ). o ≡ placed i.0 i.1 i.2)
copied = settled (λ i. placed i.0 i.1 i.2)

pub cleared : Settles (λ (i : List ℕ × ℕ × ℕ) (o : List ℕ). o ≡ placed i.0 i.1 (replicate i.2 0))
cleared = settled (λ i. placed i.0 i.1 (replicate i.2 0))

-- `put`; an outcome is the answer and the slice after the call
pub put_behind : Settles (λ (i : List ℕ × ℕ × List ℕ) (o : ℕ × List ℕ). (o.0 ≡ behind i.0 i.1 i.2) × (o.1 ≡ placed i.0 i.1 i.2))
put_behind = settled_both (λ i. behind i.0 i.1 i.2) (λ i. placed i.0 i.1 i.2)
