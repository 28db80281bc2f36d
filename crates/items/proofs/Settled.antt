-- Each promise settles its call: two outcomes that meet it for the same input are equal (01, "Acceptance of the promises"). An input is the
-- packet, with a place in it or a spot. Assumes nothing.
use Prim.Native.Nat.{ℕ}
use mathlib.Core.Path.{◌≡◌}
use mathlib.Core.List.{List}
use Rattle.laws.specs.Settle.{Settles}
use Rattle.laws.proofs.Settle.{settled}
use Rattle.items.specs.Items as tags
use Rattle.items.specs.declared.Walked.{Walked}
use Rattle.items.specs.declared.Spot.{Spot}

pub bytes : Settles (λ (bits : ℕ) (r : ℕ). r ≡ tags.bytes_for bits)
bytes = settled tags.bytes_for

pub size_at_law : Settles (λ (i : List ℕ × ℕ) (r : ℕ). r ≡ tags.size_at i.0 i.1)
size_at_law = settled (λ i. tags.size_at i.0 i.1)

pub walk : Settles (λ (s : List ℕ) (r : Walked). r ≡ tags.walked_of (tags.cut_of s))
walk = settled (λ s. tags.walked_of (tags.cut_of s))

pub value : Settles (λ (i : List ℕ × Spot) (r : List ℕ). r ≡ tags.shown_at i.0 i.1)
value = settled (λ i. tags.shown_at i.0 i.1)
