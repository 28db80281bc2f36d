-- Energy dispersal (01, "Dispersal"; 000, 7.2.2). Each bit of the sequence is the sum modulo 2 of the bits 5 and 9 places before it
-- (x^9+x^5+1), with nine ones before the first. A register holds the last nine bits as a number below 512, the newest lowest.
-- Assumes nothing.
use Rattle.std.specs.Prelude.{ℕ, ◌+◌, ◌*◌, ◌/◌, ◌%◌, List, [], ◌∷◌, ltb, eqb, length}
use Rattle.std.specs.Int.Bits.{bit_xor}
use Rattle.laws.specs.Limits.{longest}
use Rattle.laws.specs.Pick.{pick}
use Rattle.laws.specs.Refuse.{Test, test, refused_with}
use Rattle.laws.specs.Written.{written}

-- one bit more: the bit 5 places before it stands at 16, the bit 9 places before it at 256
unfoldable pub push : ℕ → ℕ
push r = r * 2 % 512 + (r / 16 + r / 256) % 2

-- a byte more: then the low eight bits are that byte, its first bit the most significant
unfoldable pub next : ℕ → ℕ
next r = push (push (push (push (push (push (push (push r)))))))

-- data XORed with the bytes that follow a register
unfoldable pub dispersed_from : ℕ → List ℕ → List ℕ
dispersed_from r [] = []
dispersed_from r (x ∷ xs) = bit_xor x (next r % 256) ∷ dispersed_from (next r) xs

-- the register before the first bit: nine ones
abbrev pub ones : ℕ
ones = 511

-- a block, afresh
unfoldable pub dispersed : List ℕ → List ℕ
dispersed input = dispersed_from ones input

-- the refusals, in the order tried
unfoldable pub tests_for : List ℕ → List ℕ → List Test
tests_for input output = test (ltb longest (length input)) 1 ∷ test (ltb (length output) (length input)) 1 ∷ []

-- the number given back
unfoldable pub number_for : List ℕ → List ℕ → ℕ
number_for input output = refused_with (tests_for input output)

-- the output after the call: the block at its front; all as it was where the call refuses
unfoldable pub output_for : List ℕ → List ℕ → List ℕ
output_for input output = pick (eqb (number_for input output) 0) (written output 0 (dispersed input)) output
