-- One data packet (01, "Packets, queues and receiver"; 000, 6.6.1.1 and 6.6.1.2): what it says, and its bytes. p is the number of
-- its data bytes. Assumes nothing.
use Rattle.std.specs.Prelude.{ℕ, ◌-◌, List, [], ◌∷◌, ◌++◌, Bool, true, ltb, eqb, length, get_or, take, drop, replicate}
use Rattle.laws.specs.Pick.{pick}
use Rattle.laws.specs.Fields.{fields_of, number_of}
use Rattle.laws.specs.Big.{bytes_of}
use Rattle.crc.specs.Crc.{crc_of}

-- a piece of a unit: whether it is the unit's first and its last, and its useful bytes
pub record Chunk : Type 0 where
  pub first : Bool
  pub last : Bool
  pub body : List ℕ

-- what a packet says
pub record Packet : Type 0 where
  pub id : ℕ
  pub index : ℕ
  pub chunk : Chunk

abbrev pub packet_of : Bool → Bool → ℕ → ℕ → List ℕ → Packet
packet_of first last id index body = record { id = id; index = index; chunk = record { first = first; last = last; body = body } }

-- H: what a null packet carries. No byte of any unit, and both flags
abbrev pub nothing : Chunk
nothing = record { first = true; last = true; body = [] }

-- ---- the header: first flag 1 bit, last flag 1, id 2, padded flag 1, continuity index 3
abbrev pub widths : List ℕ
widths = 1 ∷ 1 ∷ 2 ∷ 1 ∷ 3 ∷ []

abbrev pub flag : Bool → ℕ
flag b = pick b 1 0

unfoldable pub head_of : Bool → Bool → ℕ → Bool → ℕ → ℕ
head_of first last id padded index = number_of widths (flag first ∷ flag last ∷ id ∷ flag padded ∷ index ∷ [])

-- field k of a header
abbrev pub field_at : ℕ → ℕ → ℕ
field_at k head = get_or (fields_of widths head) k 0

unfoldable pub padded : ℕ → Bool
padded head = eqb (field_at 3 head) 1

-- ---- the bytes of a packet
-- the p data bytes: the useful bytes where they are p, else their count, they themselves, and zeros
unfoldable pub data_of : ℕ → List ℕ → List ℕ
data_of p body = pick (ltb (length body) p) (length body ∷ (body ++ replicate (p - 1 - length body) 0)) body

-- header and data
unfoldable pub plain_of : ℕ → Packet → List ℕ
plain_of p k = head_of k.chunk.first k.chunk.last k.id (ltb (length k.chunk.body) p) k.index ∷ data_of p k.chunk.body

-- bytes with their CRC-16 behind
unfoldable pub sealed : List ℕ → List ℕ
sealed s = s ++ bytes_of 2 (crc_of 16 0x1021 s)

unfoldable pub encode : ℕ → Packet → List ℕ
encode p k = sealed (plain_of p k)

-- ---- what the bytes of a packet say
unfoldable pub body_of : ℕ → List ℕ → List ℕ
body_of p s = pick (padded (get_or s 0 0)) (take (get_or s 1 0) (drop 2 s)) (take p (drop 1 s))

unfoldable pub decode : ℕ → List ℕ → Packet
decode p s =
    let head = get_or s 0 0 in
    record {
      id = field_at 2 head;
      index = field_at 4 head;
      chunk = record { first = eqb (field_at 0 head) 1; last = eqb (field_at 1 head) 1; body = body_of p s };
    }
