-- When a description is well formed (01, "The description and the frame it cuts"; refusals 6 and 10), as tests and as a condition. Assumes
-- nothing.
use Rattle.std.specs.Prelude.{ℕ, ◌≤◌, ◌<◌, Bool, not, ◌||◌, ◌&&◌, List, ◌≡◌, eqb, ltb, get_or, drop}
use Rattle.std.specs.List.{list_any, list_all}
use Rattle.description.specs.declared.Lengths.{Lengths}
use Rattle.description.specs.declared.Description.{Description}
use Rattle.description.specs.Bytes.{streams, no_stream}

-- some of the list is so; all of it is
abbrev pub any : (Lengths → Bool) → List Lengths → Bool
any q ls = list_any q ls

abbrev pub all : (Lengths → Bool) → List Lengths → Bool
all q ls = list_all q ls

-- a stream whose two lengths are both 0
abbrev pub empty : Lengths → Bool
empty l = eqb l.a 0 && eqb l.b 0

-- a length over 12 bits
abbrev pub over : Lengths → Bool
over l = ltb 4095 l.a || ltb 4095 l.b

-- a field too large for its bits (6), also in a slot behind the streams
unfoldable pub is_too_large : Description → Bool
is_too_large d = ltb 3 d.level.a || ltb 3 d.level.b || any over d.stream

-- not one to four streams
abbrev pub wrong_count : Description → Bool
wrong_count d = eqb d.count 0 || ltb 4 d.count

-- a stream with no byte (H), or a slot behind the streams that is not zeros
abbrev pub wrong_slots : Description → Bool
wrong_slots d = any empty (streams d) || any (λ l. not (empty l)) (drop d.count d.stream)

-- every part A is empty, and level A is not 0
abbrev pub wrong_level : Description → Bool
wrong_level d = all (λ l. eqb l.a 0) d.stream && not (eqb d.level.a 0)

-- 16-QAM, and a level that is not 0 or 1
abbrev pub wrong_mode : ℕ → Description → Bool
wrong_mode mode d = eqb mode 3 && (ltb 1 d.level.a || ltb 1 d.level.b)

-- not well formed under an MSC mode (10)
unfoldable pub ill_formed : ℕ → Description → Bool
ill_formed mode d = wrong_count d || wrong_slots d || wrong_level d || wrong_mode mode d

-- the same as a condition: what 01 says of a description, slot by slot
pub record WellFormed (mode : ℕ) (d : Description) : Type 0 where
  pub one : 1 ≤ d.count
  pub most : d.count ≤ 4
  pub bytes : (i : ℕ) → i < d.count → (get_or d.stream i no_stream ≡ no_stream) → ⊥
  pub behind : (i : ℕ) → d.count ≤ i → get_or d.stream i no_stream ≡ no_stream
  pub level : ((i : ℕ) → (get_or d.stream i no_stream).a ≡ 0) → d.level.a ≡ 0
  pub mode3 : mode ≡ 3 → (d.level.a ≤ 1) × (d.level.b ≤ 1)
