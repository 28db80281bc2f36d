-- Each promise settles its call: two outcomes that meet it for the same input are equal (01, "Acceptance of the promises"). Assumes nothing.
use Prim.Native.Nat.{ℕ}
use mathlib.Core.Path.{◌≡◌, refl, ap}
use mathlib.Core.Bool.{Bool}
use Rattle.laws.specs.Settle.{Settles}
use Rattle.laws.proofs.Settle.{settled}
use Rattle.description.specs.declared.Description.{Description}
use Rattle.std.specs.Prelude.{Result}
use Rattle.refusal.specs.declared.Refusal.{Refusal}
use Rattle.refusal.proofs.Told.{Tells, settled_told}
use Rattle.places.specs.declared.Placement.{Placement}
use Rattle.places.specs.Parts.{Places, places_in, layout_for, used_by, bad_capacity}

places_tells : Tells places_in
places_tells =
    record {
      number = λ p. p.number;
      of_ok = λ l. refl;
      of_err = λ r. refl;
      values = λ a b e. ap (λ (p : Places). record { part = p.part; padding = p.padding }) e;
    }

-- an input is the capacity, the description and the MSC mode
pub layout : Settles (λ (i : ℕ × Description × ℕ) (r : Result Placement Refusal). places_in r ≡ layout_for i.0 i.1 i.2)
layout = settled_told places_tells (λ i. layout_for i.0 i.1 i.2)

-- ---- the steps that other crates build on
pub used : Settles (λ (d : Description) (r : ℕ). r ≡ used_by d)
used = settled used_by

pub is_bad_capacity : Settles (λ (c : ℕ) (r : Bool). r ≡ bad_capacity c)
is_bad_capacity = settled bad_capacity
