-- Big-endian numbers: the bit layout whose fields are whole bytes. Assumes nothing.
use Rattle.std.specs.Prelude.{ℕ, ◌+◌, ◌<◌, List, leb, length, get_or, take, drop, replicate}
use Rattle.laws.specs.Fields.{fields_of, number_of}
use Rattle.laws.specs.Pick.{pick}

-- n bytes as widths
abbrev pub eights : ℕ → List ℕ
eights n = replicate n 8

-- the low n bytes of a number, the most significant first
unfoldable pub bytes_of : ℕ → ℕ → List ℕ
bytes_of n x = fields_of (eights n) x

-- the number that a list of bytes spells
unfoldable pub big_of : List ℕ → ℕ
big_of s = number_of (eights (length s)) s

-- the number of n bytes at an offset: 0 where it does not lie wholly within s
unfoldable pub number_at : ℕ → List ℕ → ℕ → ℕ
number_at n s at = pick (leb (at + n) (length s)) (big_of (take n (drop at s))) 0

-- every element is a byte
abbrev pub Bytes : List ℕ → Type 0
Bytes s = (i : ℕ) → get_or s i 0 < 256
