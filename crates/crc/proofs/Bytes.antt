-- The outer loop: the bytes are taken into the register one by one. Assumes nothing.
use mathlib.Core.Path.{◌≡◌, refl, sym, ap, ◌∙◌}
use mathlib.Core.List.{List, [], ◌∷◌, ◌++◌}
use Prim.Native.Nat.{ℕ, suc, ◌+◌, ◌-◌, ◌^◌, ◌≤◌, ◌<◌}
use native.Mathlib.Numerals.{add-one}
use native.Mathlib.Omega.{arith}
use lib.ListN.{length, drop, get_or, drop_of_length-le}
use lib.Seq.{drop-cons}
use Rattle.crc.specs.Crc.{shift, feed, bits_of, bits_of_all, crc_of}

feed_append : (w p r : ℕ) (xs ys : List ℕ) → feed w p r (xs ++ ys) ≡ feed w p (feed w p r xs) ys
unfolding feed
feed_append w p r [] ys = refl
feed_append w p r (x ∷ xs) ys = feed_append w p (shift w p r x) xs ys

-- after i bytes: the bytes left make of the register r what all of s makes of all ones
pub record Fed (w p : ℕ) (s : List ℕ) (r i : ℕ) : Type 0 where
  pub within : i ≤ length s
  pub left : feed w p r (bits_of_all (drop i s)) ≡ feed w p (2 ^ w - 1) (bits_of_all s)

pub fed_none : (w p : ℕ) (s : List ℕ) → Fed w p s (2 ^ w - 1) 0
fed_none w p s = record { within = omega arith; left = refl }

pub fed_one : {w p : ℕ} {s : List ℕ} {r i d : ℕ} → i < length s → d ≡ feed w p r (bits_of (get_or s i 0)) → Fed w p s r i → Fed w p s d (i + 1)
unfolding bits_of_all
fed_one {w} {p} {s} {r} {i} h e f =
    record {
      within = omega arith;
      left =
          rw (add-one, e) (sym (feed_append w p r (bits_of (get_or s i 0)) (bits_of_all (drop (suc i) s))))
          ∙ ap (λ (l : List ℕ). feed w p r (bits_of_all l)) (sym (drop-cons s i 0 h))
          ∙ f.left;
    }

pub fed_all : {w p : ℕ} {s : List ℕ} {r i : ℕ} → length s ≤ i → Fed w p s r i → (2 ^ w - 1) - r ≡ crc_of w p s
unfolding feed bits_of_all crc_of
fed_all {w} {p} {s} {r} h f =
    ap (λ (n : ℕ). (2 ^ w - 1) - n) (sym (ap (λ (l : List ℕ). feed w p r (bits_of_all l)) (drop_of_length-le s h)) ∙ f.left)
