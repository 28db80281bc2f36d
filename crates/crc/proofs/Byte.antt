-- A byte at once: to feed its eight bits is to add it modulo 2 in the register's top eight places, and to feed eight zeros.
-- Assumes nothing.
use mathlib.Core.Path.{◌≡◌, sym, ap, ◌∙◌}
use Prim.Native.Nat.{ℕ, ◌-◌, ◌*◌, ◌%◌, ◌^◌, ◌<◌}
use native.Mathlib.Nat.{mod-lt}
use lib.Bits.{bit_xor, xor_lt}
use lib.Dec.{lit<}
use lib.ListN.{replicate}
use Rattle.crc.specs.Crc.{feed, bits_of}
use Rattle.crc.specs.Register.{Register}
use Rattle.crc.proofs.Linear.{Bits, feed_linear}
use Rattle.laws.proofs.Xor.{xor_back}

low : (n : ℕ) → n % 2 < 2
low n = mod-lt n (lit< tt)

byte_bits : (b : ℕ) → Bits (bits_of b)
unfolding bits_of
byte_bits b = (low _, (low _, (low _, (low _, (low _, (low _, (low _, (low _, tt))))))))

module _ (w p : ℕ) (R : Register w p) where
  -- the byte, added to the register at the top and once more as what is left to feed, cancels out
  pub byte_first : (r b : ℕ) → r < 2 ^ w → b < 256 → feed w p (bit_xor r (b * 2 ^ (w - 8))) (replicate 8 0) ≡ feed w p r (bits_of b)
  unfolding bits_of
  byte_first r b hr hb =
      let B = b * 2 ^ (w - 8) in
      let fits : B < 2 ^ w = R.byte_fits b hb in
      sym
      (ap (λ (n : ℕ). feed w p n (bits_of b)) (sym (xor_back r B))
      ∙ feed_linear w p R (bits_of b) B (bit_xor r B) (byte_bits b) fits (xor_lt w r B hr fits)
      ∙ ap (λ (n : ℕ). bit_xor n (feed w p (bit_xor r B) (replicate 8 0))) (R.meets b hb))
