-- B6: what was written is read as it was, and what was read is written as it was, as a value and as a type 0 entity (01, "The description and the
-- frame it cuts"). A description has four slots: [Lengths; 4] in the code, hence the one premise on it. Assumes nothing.
use Rattle.std.specs.Prelude.{ℕ, ◌%◌, ◌≤◌, ◌≡◌, List, ◌∷◌, length, get_or, take, drop}
use Rattle.laws.specs.Big.{Bytes}
use Rattle.laws.specs.Written.{written}
use Rattle.description.specs.declared.Description.{Description}
use Rattle.description.specs.Answers.{read_for, read_entity_for, write_for, output_for, write_entity_for, entity_output_for}

-- a value with its four reserved bits 0
abbrev pub cleared : List ℕ → List ℕ
cleared v = get_or v 0 0 % 16 ∷ drop 1 v

-- as a value, under one mode
pub record OfValues : Type 0 where
  -- what `write` accepts, into an output of any length, is read unchanged
  pub written_is_read : (d : Description) (mode : ℕ) (out : List ℕ) → length d.stream ≡ 4 → (write_for d mode out).number ≡ 0
      → read_for (take (write_for d mode out).length (output_for d mode out)) mode ≡ record { number = 0; description = d }
  -- what `read` accepts is written again, wherever it has room: the same bytes, but that reserved bits become 0
  pub read_is_written : (v : List ℕ) (mode : ℕ) (out : List ℕ) → Bytes v → (read_for v mode).number ≡ 0 → length v ≤ length out
      → (write_for (read_for v mode).description mode out ≡ record { number = 0; length = length v })
      × (output_for (read_for v mode).description mode out ≡ written out 0 (cleared v))

-- as an entity, with its version
pub record OfEntities : Type 0 where
  pub written_is_read : (version : ℕ) (d : Description) (mode : ℕ) (out : List ℕ) → length d.stream ≡ 4 → (write_entity_for version d mode out).number ≡ 0
      → read_entity_for (take (write_entity_for version d mode out).length (entity_output_for version d mode out)) mode
      ≡ record { number = 0; version = version; description = d }
  -- the type stands where a value has its reserved bits, so all is written: the same bytes
  pub read_is_written : (s : List ℕ) (mode : ℕ) (out : List ℕ) → Bytes s → (read_entity_for s mode).number ≡ 0 → length s ≤ length out
      → (write_entity_for (read_entity_for s mode).version (read_entity_for s mode).description mode out ≡ record { number = 0; length = length s })
      × (entity_output_for (read_entity_for s mode).version (read_entity_for s mode).description mode out ≡ written out 0 s)

pub record RoundTrip : Type 0 where
  pub values : OfValues
  pub entities : OfEntities
