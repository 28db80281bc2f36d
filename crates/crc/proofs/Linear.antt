-- The register is linear: fed with a row of bits, the sum modulo 2 of two registers is the sum of the one fed with these bits and
-- of the other fed with as many zeros. Assumes nothing.
use mathlib.Core.Path.{◌≡◌, refl, sym, ap, ap₂, ◌∙◌, subst}
use mathlib.Core.List.{List, [], ◌∷◌}
use Prim.Native.Nat.{ℕ, ◌-◌, ◌*◌, ◌/◌, ◌%◌, ◌^◌, ◌<◌}
use native.Mathlib.Nat.{mod-lt, one-mul, mul-le-mul_right, lt_of_le_of_lt, le_of_suc-le-suc}
use lib.Bits.{bit_xor, xor_shr, xor_mod, xor_lt, xor_zero_r}
use lib.Dec.{lit<}
use lib.ListN.{length, replicate}
use lib.Pow.{pow_pos}
use Rattle.crc.specs.Crc.{shift, feed}
use Rattle.crc.specs.Register.{Register}
use Rattle.laws.proofs.Xor.{xor_swap, xor_double, xor_times}

-- each is a bit
abbrev pub Bits : List ℕ → Type 0
Bits [] = Unit {0}
Bits (b ∷ bs) = (b < 2) × Bits bs

bit_times : (x p n : ℕ) → x < 2 → p < n → x * p < n
bit_times x p n hx hp = lt_of_le_of_lt (mul-le-mul_right p (le_of_suc-le-suc hx)) (subst (λ (k : ℕ). k < n) (sym (one-mul p)) hp)

module _ (w p : ℕ) (R : Register w p) where
  pub shift_lt : (r b : ℕ) → r < 2 ^ w → b < 2 → shift w p r b < 2 ^ w
  unfolding shift
  shift_lt r b hr hb =
      xor_lt w (r * 2 % 2 ^ w) (bit_xor (r / 2 ^ (w - 1)) b * p) (mod-lt (r * 2) (pow_pos w))
      (bit_times (bit_xor (r / 2 ^ (w - 1)) b) p (2 ^ w) (xor_lt 1 (r / 2 ^ (w - 1)) b (R.top r hr) hb) R.fits)

  shift_linear : (x y b : ℕ) → x < 2 ^ w → y < 2 ^ w → b < 2 → shift w p (bit_xor x y) b ≡ bit_xor (shift w p x b) (shift w p y 0)
  unfolding shift
  shift_linear x y b hx hy hb =
      let X = x / 2 ^ (w - 1) in
      let Y = y / 2 ^ (w - 1) in
      ap₂ bit_xor
      (ap (λ (n : ℕ). n % 2 ^ w) (xor_double x y) ∙ xor_mod (x * 2) (y * 2) w)
      (ap (λ (n : ℕ). n * p) (ap₂ bit_xor (xor_shr x y (w - 1)) (sym (xor_zero_r b)) ∙ xor_swap X Y b 0)
      ∙ xor_times (bit_xor X b) (bit_xor Y 0) p (xor_lt 1 X b (R.top x hx) hb) (xor_lt 1 Y 0 (R.top y hy) (lit< tt)))
      ∙ xor_swap (x * 2 % 2 ^ w) (y * 2 % 2 ^ w) (bit_xor X b * p) (bit_xor Y 0 * p)

  pub feed_linear : (bs : List ℕ) (x y : ℕ) → Bits bs → x < 2 ^ w → y < 2 ^ w
      → feed w p (bit_xor x y) bs ≡ bit_xor (feed w p x bs) (feed w p y (replicate (length bs) 0))
  unfolding feed
  feed_linear [] x y h hx hy = refl
  feed_linear (b ∷ bs) x y h hx hy =
      ap (λ (n : ℕ). feed w p n bs) (shift_linear x y b hx hy h.0)
      ∙ feed_linear bs (shift w p x b) (shift w p y 0) h.1 (shift_lt x b hx h.0) (shift_lt y 0 hy (lit< tt))
