-- What the laws ask of a width and a polynomial, and that CRC-8 and CRC-16 have it: the law of the private trait `Word`, which is why it stands
-- here. No promise names it. Assumes nothing.
use mathlib.Core.Path.{◌≡◌}
use Prim.Native.Nat.{ℕ, ◌-◌, ◌*◌, ◌/◌, ◌^◌, ◌<◌}
use native.Mathlib.Omega.{arith}
use lib.Dec.{lit<}
use lib.Pow.{shr_lt}
use Rattle.crc.specs.Crc.{shift, feed, bits_of}
use Rattle.laws.proofs.Table.{below}

pub record Register (w p : ℕ) : Type 0 where
  -- what stands in the top place is one bit
  pub top : (r : ℕ) → r < 2 ^ w → r / 2 ^ (w - 1) < 2
  -- the polynomial fits the register, and so does a byte in its top eight places
  pub fits : p < 2 ^ w
  pub byte_fits : (b : ℕ) → b < 256 → b * 2 ^ (w - 8) < 2 ^ w
  -- a byte in the top places meets itself: each of its bits falls out against the same bit of the data, and nothing is left
  pub meets : (b : ℕ) → b < 256 → feed w p (b * 2 ^ (w - 8)) (bits_of b) ≡ 0

-- `meets` is computed, for all 256 bytes
pub register8 : Register 8 0x1d
unfolding shift feed bits_of
register8 =
    record {
      top = λ r h. shr_lt 1 7 h;
      fits = lit< tt;
      byte_fits = λ b h. omega arith;
      meets = below (λ b. feed 8 0x1d (b * 1) (bits_of b)) (λ b. 0) 256 tt;
    }

pub register16 : Register 16 0x1021
unfolding shift feed bits_of
register16 =
    record {
      top = λ r h. shr_lt 1 15 h;
      fits = lit< tt;
      byte_fits = λ b h. omega arith;
      meets = below (λ b. feed 16 0x1021 (b * 256) (bits_of b)) (λ b. 0) 256 tt;
    }
