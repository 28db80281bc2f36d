-- The cyclic redundancy check of 01 ("MDI packet", CRC; 000, annex D), as the annex has it: a shift register, all ones at the
-- start, takes in the data a bit at a time, the most significant bit of each byte first. The check word is what it then holds, inverted.
-- One definition for both lengths. The register has w bits and is a number below 2 ^ w. poly is the generator polynomial
-- without its leading term: x^8 + x^4 + x^3 + x^2 + 1 is 0x1d at w = 8, and x^16 + x^12 + x^5 + 1 is 0x1021 at w = 16.
-- Assumes nothing.
use Rattle.std.specs.Prelude.{ℕ, ◌-◌, ◌*◌, ◌/◌, ◌%◌, ◌^◌, List, [], ◌∷◌, ◌++◌}
use Rattle.std.specs.Int.Bits.{bit_xor}

-- the register r after one data bit b. top is the register's top bit, added modulo 2 to b. All bits move up one place, the
-- top one out, and where top is 1 the polynomial is added modulo 2
unfoldable pub shift : ℕ → ℕ → ℕ → ℕ → ℕ
shift w poly r b = let top = bit_xor (r / 2 ^ (w - 1)) b in bit_xor (r * 2 % 2 ^ w) (top * poly)

-- the register after a row of bits, taken in their order
unfoldable pub feed : ℕ → ℕ → ℕ → List ℕ → ℕ
feed w poly r [] = r
feed w poly r (b ∷ bs) = feed w poly (shift w poly r b) bs

-- the bits of a byte, the most significant first
unfoldable pub bits_of : ℕ → List ℕ
bits_of x = x / 128 % 2 ∷ x / 64 % 2 ∷ x / 32 % 2 ∷ x / 16 % 2 ∷ x / 8 % 2 ∷ x / 4 % 2 ∷ x / 2 % 2 ∷ x % 2 ∷ []

-- the bits of a row of bytes
unfoldable pub bits_of_all : List ℕ → List ℕ
bits_of_all [] = []
bits_of_all (x ∷ xs) = bits_of x ++ bits_of_all xs

-- the check word of the bytes s
unfoldable pub crc_of : ℕ → ℕ → List ℕ → ℕ
crc_of w poly s = let ones = 2 ^ w - 1 in ones - feed w poly ones (bits_of_all s)
