-- What the checks answer, by the way taken through them. Assumes nothing.
use mathlib.Core.Path.{◌≡◌, ap, ◌∙◌}
use mathlib.Core.List.{List}
use mathlib.Core.Bool.{Bool, true, false}
use Prim.Native.Nat.{ℕ, ◌+◌, ◌-◌, ◌≤◌, ◌<◌}
use native.Mathlib.Omega.{arith}
use borrow.Author.Tests.{eq-eqb, ne_eqb, lt-ltb, le-ltb}
use lib.ListN.{length, get_or, take}
use Rattle.laws.specs.Big.{number_at}
use Rattle.crc.specs.Crc.{crc_of}
use Rattle.packet.specs.Packet.{padded}
use Rattle.packet.specs.Calls.{wrong_word, wrong_count, tests_for, check_for}

-- a part from index 0 on
pub from_start : (s : List ℕ) (m w : ℕ) → w ≡ crc_of 16 0x1021 (take (m - 0) s) → w ≡ crc_of 16 0x1021 (take m s)
from_start s m w e = let z : m - 0 ≡ m = omega arith in e ∙ ap (λ (k : ℕ). crc_of 16 0x1021 (take k s)) z

module _ (p : ℕ) (s : List ℕ) where
  pub p_zero : p ≡ 0 → 13 ≡ check_for p s
  unfolding tests_for check_for
  p_zero h = simp (eq-eqb _ _ h)

  pub p_over : (p ≡ 0 → ⊥) → 255 < p → 13 ≡ check_for p s
  unfolding tests_for check_for
  p_over h l = simp (ne_eqb _ _ h, lt-ltb _ _ l)

  module _ (low : p ≡ 0 → ⊥) (high : p ≤ 255) where
    pub other_length : (length s ≡ p + 3 → ⊥) → 1 ≡ check_for p s
    unfolding tests_for check_for
    other_length h = simp (ne_eqb _ _ low, le-ltb _ _ high, ne_eqb _ _ h)

    module _ (whole : length s ≡ p + 3) (x w : ℕ) (ex : x ≡ number_at 2 s (p + 1)) (ew : w ≡ crc_of 16 0x1021 (take (p + 1 - 0) s)) where
      word : w ≡ crc_of 16 0x1021 (take (p + 1) s)
      word = from_start s (p + 1) w ew

      pub word_wrong : (x ≡ w → ⊥) → 16 ≡ check_for p s
      unfolding tests_for check_for wrong_word
      word_wrong h = simp (ne_eqb _ _ low, le-ltb _ _ high, eq-eqb _ _ whole, ← ex, ← word, ne_eqb _ _ h)

      module _ (right : x ≡ w) (b : Bool) (eb : b ≡ padded (get_or s 0 0)) where
        pub full_right : b ≡ false → 0 ≡ check_for p s
        unfolding tests_for check_for wrong_word wrong_count
        full_right h = simp (ne_eqb _ _ low, le-ltb _ _ high, eq-eqb _ _ whole, ← ex, ← word, eq-eqb _ _ right, ← eb, h)

        module _ (n : ℕ) (en : n ≡ get_or s 1 0) where
          pub count_over : b ≡ true → p - 1 < n → 16 ≡ check_for p s
          unfolding tests_for check_for wrong_word wrong_count
          count_over h l =
              simp (ne_eqb _ _ low, le-ltb _ _ high, eq-eqb _ _ whole, ← ex, ← word, eq-eqb _ _ right, ← eb, h, ← en, lt-ltb _ _ l)

          pub count_right : b ≡ true → n ≤ p - 1 → 0 ≡ check_for p s
          unfolding tests_for check_for wrong_word wrong_count
          count_right h l =
              simp (ne_eqb _ _ low, le-ltb _ _ high, eq-eqb _ _ whole, ← ex, ← word, eq-eqb _ _ right, ← eb, h, ← en, le-ltb _ _ l)
