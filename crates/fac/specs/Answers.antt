-- What the calls answer (01, "Numbers given back"). Assumes nothing.
use Rattle.std.specs.Prelude.{ℕ, not, List, [], ◌∷◌, Result, Ok, Err, eqb, ltb, length}
use Rattle.laws.specs.Limits.{longest}
use Rattle.laws.specs.Pick.{pick}
use Rattle.laws.specs.Refuse.{Test, test, refused_with}
use Rattle.laws.specs.Written.{written}
use Rattle.fac.specs.declared.Fac.{Fac}
use Rattle.moves.specs.Wrote.{Wrote, wrote_of}
use Rattle.refusal.specs.declared.Refusal.{Refusal}
use Rattle.refusal.specs.Refusal.{number_of}
use Rattle.fac.specs.Channel.{from_fields, fac_bytes, fac_of, sealed, is_too_large, not_served}

-- ---- reading a value
unfoldable pub read_tests : List ℕ → List Test
read_tests value =
    test (ltb longest (length value)) 1
    ∷ test (not (eqb (length value) 9)) 5
    ∷ test (not (sealed value)) 7
    ∷ test (not_served (fac_of value)) 9
    ∷ []

-- all zeros: what a refused call gives
abbrev pub no_fac : Fac
no_fac = from_fields []

-- the answer of a call that reads
pub record Announced : Type 0 where
  pub number : ℕ
  pub fac : Fac

-- what such an answer says
abbrev pub announced_in : Result Fac Refusal → Announced
announced_in (Ok f) = record { number = 0; fac = f }
announced_in (Err r) = record { number = number_of r; fac = no_fac }

unfoldable pub announced : ℕ → Fac → Announced
announced n f = record { number = n; fac = pick (eqb n 0) f no_fac }

unfoldable pub read_for : List ℕ → Announced
read_for value = announced (refused_with (read_tests value)) (fac_of value)

-- ---- writing a record, to an output of room bytes
unfoldable pub write_tests : Fac → ℕ → List Test
write_tests f room = test (is_too_large f) 6 ∷ test (not_served f) 9 ∷ test (ltb room 9) 1 ∷ []

unfoldable pub write_number : Fac → ℕ → ℕ
write_number f room = refused_with (write_tests f room)

unfoldable pub write_for : Fac → ℕ → Wrote
write_for f room = wrote_of (write_number f room) 9

-- the output after it
unfoldable pub out_for : Fac → List ℕ → List ℕ
out_for f out = pick (eqb (write_number f (length out)) 0) (written out 0 (fac_bytes f)) out
