-- The inner loop: a byte was added to the register at the top, and eight turns with no data follow. Assumes nothing.
use mathlib.Core.Path.{◌≡◌, sym, ap, ◌∙◌}
use Prim.Native.Nat.{ℕ, suc, ◌+◌, ◌-◌, ◌*◌, ◌/◌, ◌%◌, ◌^◌, ◌≤◌, ◌<◌}
use native.Mathlib.Nat.{one-mul, zero-mul, div-eq_of_lt, le-div_iff_mul-le}
use native.Mathlib.Omega.{arith}
use lib.Bits.{bit_xor, xor_lt, xor_zero_r}
use lib.Dec.{lit<}
use lib.ListN.{replicate}
use lib.Pow.{pow_pos}
use Rattle.crc.specs.Crc.{shift, feed, bits_of}
use Rattle.crc.specs.Register.{Register}
use Rattle.crc.proofs.Linear.{shift_lt}
use Rattle.crc.proofs.Byte.{byte_first}

-- after k turns: the turns left make of the register c what the byte b makes of the register r
pub record Turned (w p r b c k : ℕ) : Type 0 where
  pub within : k ≤ 8
  pub fits : c < 2 ^ w
  pub left : feed w p c (replicate (8 - k) 0) ≡ feed w p r (bits_of b)

pub turned_none : {w p r b c : ℕ} → Register w p → r < 2 ^ w → b < 256 → c ≡ bit_xor r (b * 2 ^ (w - 8)) → Turned w p r b c 0
turned_none {w} {p} {r} {b} R hr hb e =
    record { within = omega arith; fits = rw e (xor_lt w r (b * 2 ^ (w - 8)) hr (R.byte_fits b hb)); left = rw e (byte_first w p R r b hr hb) }

pub turned_one : {w p r b c k : ℕ} (d : ℕ) → Register w p → k < 8 → d ≡ shift w p c 0 → Turned w p r b c k → Turned w p r b d (k + 1)
unfolding feed
turned_one {w} {p} {c} {k} d R h e t =
    let one : 8 - k ≡ suc (8 - (k + 1)) = omega arith in
    record {
      within = omega arith;
      fits = rw e (shift_lt w p R c 0 t.fits (lit< tt));
      left =
          ap (λ (x : ℕ). feed w p x (replicate (8 - (k + 1)) 0)) e
          ∙ sym (ap (λ (n : ℕ). feed w p c (replicate n 0)) one)
          ∙ t.left;
    }

-- one shift with no data, by the top bit q
turn : (w p c q : ℕ) → c / 2 ^ (w - 1) ≡ q → shift w p c 0 ≡ bit_xor (c * 2 % 2 ^ w) (q * p)
unfolding shift
turn w p c q e = ap (λ (n : ℕ). bit_xor (c * 2 % 2 ^ w) (n * p)) (xor_zero_r (c / 2 ^ (w - 1)) ∙ e)

-- a turn where the top bit is set, and one where it is not
pub turn_set : {w p : ℕ} (c : ℕ) → Register w p → c < 2 ^ w → 2 ^ (w - 1) ≤ c → bit_xor (c * 2 % 2 ^ w) p ≡ shift w p c 0
turn_set {w} {p} c R h s =
    let low : 1 ≤ c / 2 ^ (w - 1) = (le-div_iff_mul-le (pow_pos (w - 1))).1 (rw one-mul s) in
    let high = R.top c h in
    sym (turn w p c 1 (omega arith) ∙ ap (bit_xor (c * 2 % 2 ^ w)) (one-mul p))

pub turn_clear : (w p c : ℕ) → c < 2 ^ (w - 1) → c * 2 % 2 ^ w ≡ shift w p c 0
turn_clear w p c s =
    let n = c * 2 % 2 ^ w in
    sym (turn w p c 0 (div-eq_of_lt s) ∙ ap (bit_xor n) (zero-mul p) ∙ xor_zero_r n)

pub turned_all : {w p r b c k : ℕ} → 8 ≤ k → Turned w p r b c k → c ≡ feed w p r (bits_of b)
unfolding feed
turned_all {w} {p} {c} {k} h t =
    let none : 8 - k ≡ 0 = omega arith in
    sym (ap (λ (n : ℕ). feed w p c (replicate n 0)) none) ∙ t.left
