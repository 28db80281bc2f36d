-- What is read, field by field, is the value. Assumes nothing.
use Prim.Native.Nat.{ℕ}
use mathlib.Core.Path.{◌≡◌, refl}
use mathlib.Core.List.{List, [], ◌∷◌}
use lib.ListN.{get_or}
use Rattle.laws.specs.Big.{number_at}
use Rattle.description.specs.declared.Description.{Description}
use Rattle.description.specs.declared.Lengths.{Lengths}
use Rattle.answer_description.specs.Values.{on, lengths_in, description_in}

module _ (s : List ℕ) (at : ℕ) where
  pub lengths_are : (x p y : ℕ) → x ≡ number_at 2 s at → p ≡ on at 2 → y ≡ number_at 2 s p → ◌≡◌ {A = Lengths} (record { a = x; b = y }) (lengths_in s at)
  unfolding lengths_in
  lengths_are x p y e f g = rw (e, g, f) refl

  pub description_is : (p0 p1 p2 p3 q1 q2 a b n : ℕ) (l0 l1 l2 l3 : Lengths)
      → p0 ≡ on at 3 → l0 ≡ lengths_in s p0 → p1 ≡ on at 7 → l1 ≡ lengths_in s p1 → p2 ≡ on at 11 → l2 ≡ lengths_in s p2 → p3 ≡ on at 15 → l3 ≡ lengths_in s p3
      → a ≡ get_or s at 0 → q1 ≡ on at 1 → b ≡ get_or s q1 0 → q2 ≡ on at 2 → n ≡ get_or s q2 0
      → ◌≡◌ {A = Description} (record { level = record { a = a; b = b }; count = n; stream = l0 ∷ l1 ∷ l2 ∷ l3 ∷ [] }) (description_in s at)
  unfolding description_in
  description_is p0 p1 p2 p3 q1 q2 a b n l0 l1 l2 l3 e0 f0 e1 f1 e2 f2 e3 f3 g h1 k1 h2 k2 =
      rw (f0, e0, f1, e1, f2, e2, f3, e3, g, k1, h1, k2, h2) refl
