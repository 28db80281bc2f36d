-- The description of the streams as bytes (01, "MDI packet", `sdci`, and "The description and the frame it cuts"; 002, 5.1.5; 000, 6.4.3.0
-- and 6.4.3.1). Assumes nothing.
use Rattle.std.specs.Prelude.{ℕ, ◌+◌, ◌*◌, ◌/◌, Bool, ◌&&◌, List, [], ◌∷◌, ◌++◌, eqb, leb, length, get_or, take, drop}
use Rattle.laws.specs.Big.{bytes_of, big_of}
use Rattle.laws.specs.Fields.{total, fields_of, number_of}
use Rattle.laws.specs.Pick.{pick}
use Rattle.description.specs.declared.Lengths.{Lengths}
use Rattle.description.specs.declared.Description.{Description}

-- fields, one behind the other, as whole bytes
abbrev pub laid : List ℕ → List ℕ → List ℕ
laid widths fields = bytes_of (total widths / 8) (number_of widths fields)

-- whole bytes as fields
abbrev pub fields_in : List ℕ → List ℕ → List ℕ
fields_in widths s = fields_of widths (big_of s)

-- the first byte of a value: reserved bits, level A, level B
abbrev pub level_bits : List ℕ
level_bits = 4 ∷ 2 ∷ 2 ∷ []

-- the three bytes of a stream: length of part A, length of part B
abbrev pub length_bits : List ℕ
length_bits = 12 ∷ 12 ∷ []

-- the first byte of an entity: length, version
abbrev pub head_bits : List ℕ
head_bits = 7 ∷ 1 ∷ []

-- the streams in use
abbrev pub streams : Description → List Lengths
streams d = take d.count d.stream

unfoldable pub length_bytes : Lengths → List ℕ
length_bytes l = laid length_bits (l.a ∷ l.b ∷ [])

unfoldable pub stream_bytes : List Lengths → List ℕ
stream_bytes [] = []
stream_bytes (l ∷ ls) = length_bytes l ++ stream_bytes ls

-- the `sdci` value
unfoldable pub value_of : Description → List ℕ
value_of d = laid level_bits (0 ∷ d.level.a ∷ d.level.b ∷ []) ++ stream_bytes (streams d)

-- the type 0 entity: its length is three bytes a stream, and its four bits of type, 0, stand where a value has the reserved bits
unfoldable pub entity_of : ℕ → Description → List ℕ
entity_of version d = laid head_bits (3 * d.count ∷ version ∷ []) ++ value_of d

-- a slot in which no stream is, and the description that a refusal gives
abbrev pub no_stream : Lengths
no_stream = record { a = 0; b = 0 }

abbrev pub nothing : Description
nothing = record { level = record { a = 0; b = 0 }; count = 0; stream = no_stream ∷ no_stream ∷ no_stream ∷ no_stream ∷ [] }

-- the bytes of both parts of the stream in a slot; 0 in a slot in which there is none
abbrev pub said_of : Description → ℕ → ℕ
said_of d k = (get_or d.stream k no_stream).a + (get_or d.stream k no_stream).b

-- streams of so many bytes are as long as the description says, 0 where it has none: else refusal 11, of a frame and of an MDI packet read or written
abbrev pub filled : Description → ℕ → ℕ → ℕ → ℕ → Bool
filled d n0 n1 n2 n3 = eqb n0 (said_of d 0) && eqb n1 (said_of d 1) && eqb n2 (said_of d 2) && eqb n3 (said_of d 3)

-- the lengths that three bytes say
unfoldable pub lengths_of : List ℕ → Lengths
lengths_of s = record { a = get_or (fields_in length_bits s) 0 0; b = get_or (fields_in length_bits s) 1 0 }

-- the slot whose bytes begin at an offset of a value: no stream where they are not there
unfoldable pub slot_at : List ℕ → ℕ → Lengths
slot_at v at = pick (leb (at + 3) (length v)) (lengths_of (take 3 (drop at v))) no_stream

-- the description that a value says: the reserved bits do not count
unfoldable pub described_by : List ℕ → Description
described_by v =
    record {
      level = record { a = get_or (fields_in level_bits (take 1 v)) 1 0; b = get_or (fields_in level_bits (take 1 v)) 2 0 };
      count = length v / 3;
      stream = slot_at v 1 ∷ slot_at v 4 ∷ slot_at v 7 ∷ slot_at v 10 ∷ [];
    }
