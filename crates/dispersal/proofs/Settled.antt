-- Each promise settles its call: two outcomes that meet it for the same input are equal (01, "Acceptance of the promises"). An input is the
-- input and the output before the call. Assumes nothing.
use Prim.Native.Nat.{ℕ}
use Rattle.std.specs.Prelude.{Result}
use mathlib.Core.Path.{◌≡◌}
use mathlib.Core.List.{List}
use Rattle.laws.specs.Settle.{Settles}
use Rattle.refusal.specs.declared.Refusal.{Refusal}
use Rattle.refusal.specs.Refusal.{number_in}
use Rattle.refusal.proofs.Told.{settled_told_both, number_tells}
use Rattle.dispersal.specs.Dispersal.{number_for, output_for}

pub disperse : Settles (λ (i : List ℕ × List ℕ) (o : Result (Unit {0}) Refusal × List ℕ). (number_in o.0 ≡ number_for i.0 i.1) × (o.1 ≡ output_for i.0 i.1))
disperse = settled_told_both number_tells (λ i. number_for i.0 i.1) (λ i. output_for i.0 i.1)
