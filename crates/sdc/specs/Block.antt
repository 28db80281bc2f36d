-- The service description channel's block as a value by itself and as the bytes of a `sdc_` value (01, "MDI packet", `sdc_`; 000, 6.4.2;
-- 002, 5.1.4). Assumes nothing.
use Rattle.std.specs.Prelude.{ℕ, Option, None, Some, ◌-◌, ◌%◌, Bool, true, not, ◌||◌, ◌&&◌, List, [], ◌∷◌, ◌++◌, eqb, leb, ltb, length, get_or, take, drop, replicate}
use Rattle.laws.specs.Big.{bytes_of, number_at}
use Rattle.laws.specs.Pick.{pick}
use Rattle.crc.specs.Crc.{crc_of}
use Rattle.sdc.specs.declared.Head.{Head}
use Rattle.sdc.specs.declared.Sdc.{Sdc}

-- H: the most data bytes that a block has
abbrev pub most : ℕ
most = 1024

abbrev pub capped : ℕ → ℕ
capped n = pick (ltb most n) most n

-- data at the front of the room for it, zeros behind
unfoldable pub padded : List ℕ → List ℕ
padded d = d ++ replicate (most - length d) 0

abbrev pub no_sdc : Sdc
no_sdc = record { head = None; body = replicate 1024 0 }

-- ---- what a value says
-- the data bytes of a value: between its first byte and its last two
unfoldable pub data_in : List ℕ → List ℕ
data_in v = take (capped (length v - 3)) (drop 1 v)

-- an empty value is an absent block; the AFS index is the low four bits of the first byte
unfoldable pub sdc_of : List ℕ → Sdc
sdc_of v =
    pick (eqb (length v) 0) no_sdc (record { head = Some (record { afs = get_or v 0 0 % 16; size = capped (length v - 3) }); body = padded (data_in v) })

-- four zero bits, and the last two bytes are the CRC-16 of those before them; an empty value has neither
unfoldable pub sealed : List ℕ → Bool
sealed v =
    pick (eqb (length v) 0) true
    (leb 3 (length v) && (ltb (get_or v 0 0) 16 && eqb (number_at 2 v (length v - 2)) (crc_of 16 0x1021 (take (length v - 2) v))))

-- ---- the value of a block
-- bytes with their CRC-16 behind
unfoldable pub sealed16 : List ℕ → List ℕ
sealed16 s = s ++ bytes_of 2 (crc_of 16 0x1021 s)

unfoldable pub block_bytes : Option Head → List ℕ → List ℕ
block_bytes None body = []
block_bytes (Some h) body = sealed16 (h.afs ∷ take h.size body)

unfoldable pub sdc_bytes : Sdc → List ℕ
sdc_bytes s = block_bytes s.head s.body

-- ---- what is wrong with a block handed in
unfoldable pub size_of : Option Head → ℕ
size_of None = 0
size_of (Some h) = h.size

unfoldable pub afs_of : Option Head → ℕ
afs_of None = 0
afs_of (Some h) = h.afs

-- over 1,024 data bytes: the item would have a length not in the table (5)
unfoldable pub over_long : Sdc → Bool
over_long s = ltb most (size_of s.head)

-- all bytes are 0
unfoldable pub blank : List ℕ → Bool
blank [] = true
blank (x ∷ xs) = eqb x 0 && blank xs

-- an AFS index over four bits, or a byte behind the data that is not 0 (6)
unfoldable pub is_too_large : Sdc → Bool
is_too_large s = ltb 15 (afs_of s.head) || not (blank (drop (size_of s.head) s.body))
