-- Each promise settles its call: two outcomes that meet it for the same input are equal (01, "Acceptance of the promises"). Assumes nothing.
use Prim.Native.Nat.{ℕ}
use mathlib.Core.Path.{◌≡◌}
use mathlib.Core.List.{List}
use mathlib.Core.Bool.{Bool}
use Rattle.laws.specs.Settle.{Settles}
use Rattle.laws.proofs.Settle.{settled}
use Rattle.items.specs.Items.{cut_of}
use Rattle.items.specs.declared.Spot.{Spot}
use Rattle.mdi_spots.specs.Spotted.{passed_of, spot_in, absent_at, bad_length_at}
use Rattle.mdi_spots.specs.declared.Passed.{Passed}
use Rattle.mdi_spots.specs.declared.Spots.{Spots}

pub find_all : Settles (λ (p : List ℕ) (r : Passed). r ≡ passed_of (cut_of p))
find_all = settled (λ p. passed_of (cut_of p))

pub spot : Settles (λ (i : Spots × ℕ) (r : Spot). r ≡ spot_in i.0 i.1)
spot = settled (λ i. spot_in i.0 i.1)

pub missing : Settles (λ (t : Spots) (r : Bool). r ≡ absent_at t)
missing = settled absent_at

pub bad_length_law : Settles (λ (t : Spots) (r : Bool). r ≡ bad_length_at t)
bad_length_law = settled bad_length_at
