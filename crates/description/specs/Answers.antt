-- What the calls answer (01, "Numbers given back"). Assumes nothing.
use Rattle.std.specs.Prelude.{ℕ, ◌+◌, ◌*◌, ◌/◌, Bool, Result, Ok, Err, false, not, ◌||◌, List, [], ◌∷◌, eqb, ltb, length, get_or, take, drop}
use Rattle.laws.specs.Limits.{longest}
use Rattle.laws.specs.Pick.{pick}
use Rattle.laws.specs.Refuse.{Test, test, refused_with}
use Rattle.laws.specs.Written.{written}
use Rattle.description.specs.declared.Description.{Description}
use Rattle.description.specs.declared.Versioned.{Versioned}
use Rattle.refusal.specs.declared.Refusal.{Refusal}
use Rattle.refusal.specs.Refusal.{number_of}
use Rattle.moves.specs.Wrote.{Wrote, wrote_of}
use Rattle.description.specs.Bytes.{head_bits, level_bits, fields_in, value_of, entity_of, nothing, described_by}
use Rattle.description.specs.WellFormed.{is_too_large, ill_formed}

-- the answer of a reader in 01's terms: its number, and the description read, that of no stream where it is refused
pub record Described : Type 0 where
  pub number : ℕ
  pub description : Description

abbrev pub described_in : Result Description Refusal → Described
described_in (Ok d) = record { number = 0; description = d }
described_in (Err r) = record { number = number_of r; description = nothing }

-- the same of an entity, with its version
pub record Entity : Type 0 where
  pub number : ℕ
  pub version : ℕ
  pub description : Description

abbrev pub entity_in : Result Versioned Refusal → Entity
entity_in (Ok e) = record { number = 0; version = e.version; description = e.description }
entity_in (Err r) = record { number = number_of r; version = 0; description = nothing }

-- the bytes of a value of one to four streams
abbrev pub value_length : ℕ → Bool
value_length n = eqb n 4 || eqb n 7 || eqb n 10 || eqb n 13

-- an MSC mode that is not served
abbrev pub unserved : ℕ → Bool
unserved mode = eqb mode 1 || eqb mode 2

-- reading a value v under a mode, with an input too long or not, and with a wrong head or not
unfoldable pub reading_tests : Bool → Bool → List ℕ → ℕ → List Test
reading_tests long head v mode =
    test long 1
    ∷ test (not (value_length (length v))) 5
    ∷ test (ltb 3 mode) 6
    ∷ test (unserved mode) 9
    ∷ test (head || ill_formed mode (described_by v)) 10
    ∷ []

-- a value
unfoldable pub read_tests : List ℕ → ℕ → List Test
read_tests v mode = reading_tests (ltb longest (length v)) false v mode

unfoldable pub read_for : List ℕ → ℕ → Described
read_for v mode =
    record {
      number = refused_with (read_tests v mode);
      description = pick (eqb (refused_with (read_tests v mode)) 0) (described_by v) nothing;
    }

-- a type 0 entity: its length field, its version, the type
abbrev pub length_in : List ℕ → ℕ
length_in s = get_or (fields_in head_bits (take 1 s)) 0 0

abbrev pub version_in : List ℕ → ℕ
version_in s = get_or (fields_in head_bits (take 1 s)) 1 0

-- of what follows its first byte: the four bits that a value has reserved
abbrev pub type_in : List ℕ → ℕ
type_in v = get_or (fields_in level_bits (take 1 v)) 0 0

-- another length field than three bytes a stream, or another type
unfoldable pub wrong_head : List ℕ → Bool
wrong_head s = not (eqb (length_in s) (3 * (length (drop 1 s) / 3))) || not (eqb (type_in (drop 1 s)) 0)

unfoldable pub read_entity_tests : List ℕ → ℕ → List Test
read_entity_tests s mode = reading_tests (ltb longest (length s)) (wrong_head s) (drop 1 s) mode

unfoldable pub read_entity_for : List ℕ → ℕ → Entity
read_entity_for s mode =
    record {
      number = refused_with (read_entity_tests s mode);
      version = pick (eqb (refused_with (read_entity_tests s mode)) 0) (version_in s) 0;
      description = pick (eqb (refused_with (read_entity_tests s mode)) 0) (described_by (drop 1 s)) nothing;
    }

-- the bytes of a description's value
abbrev pub value_size : Description → ℕ
value_size d = 1 + 3 * d.count

-- the tests of a description and a mode handed in, with what else is too large, before the tests that follow
unfoldable pub handed : Bool → Description → ℕ → List Test → List Test
handed large d mode rest =
    test (large || is_too_large d || ltb 3 mode) 6 ∷ test (unserved mode) 9 ∷ test (ill_formed mode d) 10 ∷ rest

-- writing so many bytes into so much room, the room tried last
unfoldable pub writing_tests : Bool → Description → ℕ → ℕ → ℕ → List Test
writing_tests large d mode size room = handed large d mode (test (ltb room size) 1 ∷ [])

-- a value
unfoldable pub write_tests : Description → ℕ → List ℕ → List Test
write_tests d mode out = writing_tests false d mode (value_size d) (length out)

unfoldable pub write_for : Description → ℕ → List ℕ → Wrote
write_for d mode out = wrote_of (refused_with (write_tests d mode out)) (value_size d)

unfoldable pub output_for : Description → ℕ → List ℕ → List ℕ
output_for d mode out = pick (eqb (refused_with (write_tests d mode out)) 0) (written out 0 (value_of d)) out

-- a type 0 entity
unfoldable pub write_entity_tests : ℕ → Description → ℕ → List ℕ → List Test
write_entity_tests version d mode out = writing_tests (ltb 1 version) d mode (1 + value_size d) (length out)

unfoldable pub write_entity_for : ℕ → Description → ℕ → List ℕ → Wrote
write_entity_for version d mode out = wrote_of (refused_with (write_entity_tests version d mode out)) (1 + value_size d)

unfoldable pub entity_output_for : ℕ → Description → ℕ → List ℕ → List ℕ
entity_output_for version d mode out =
    pick (eqb (refused_with (write_entity_tests version d mode out)) 0) (written out 0 (entity_of version d)) out
