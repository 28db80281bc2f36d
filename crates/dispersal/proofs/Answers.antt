-- What the call answers and leaves, by the way taken through its tests. Assumes nothing.
use mathlib.Core.Path.{◌≡◌, refl, ap, ◌∙◌}
use mathlib.Core.List.{List}
use Prim.Native.Nat.{ℕ, ◌≤◌, ◌<◌}
use borrow.Author.Tests.{lt-ltb, le-ltb}
use lib.ListN.{length, take}
use lib.Seq.{take_all}
use Rattle.laws.specs.Written.{written}
use Rattle.dispersal.specs.Dispersal.{dispersed, tests_for, number_for, output_for}
use Rattle.dispersal.proofs.Sequence.{length_dispersed}

module _ (input output : List ℕ) where
  pub too_long : 65528 < length input → (1 ≡ number_for input output) × (output ≡ output_for input output)
  unfolding tests_for number_for output_for
  too_long h = simp (lt-ltb _ _ h) (refl, refl)

  pub too_short : length input ≤ 65528 → length output < length input → (1 ≡ number_for input output) × (output ≡ output_for input output)
  unfolding tests_for number_for output_for
  too_short h l = simp (le-ltb _ _ h, lt-ltb _ _ l) (refl, refl)

  pub done : length input ≤ 65528 → length input ≤ length output → (e : List ℕ) (i : ℕ) → length input ≤ i
      → e ≡ written output 0 (take i (dispersed input)) → (0 ≡ number_for input output) × (e ≡ output_for input output)
  unfolding tests_for number_for output_for
  done h l e i n q =
      simp (le-ltb _ _ h, le-ltb _ _ l) (refl, q ∙ ap (written output 0) (take_all i (dispersed input) (rw length_dispersed n)))
