-- A timestamp and its 8 bytes (01, item `tist`: UTCO 14 bits, seconds 40, milliseconds 10; 002, 5.2.2). Assumes nothing.
use Rattle.std.specs.Prelude.{ℕ, ◌^◌, ◌<◌, ◌≤◌, Bool, not, List, [], ◌∷◌, ◌++◌, leb, ltb, eqb, length, get_or}
use Rattle.laws.specs.Big.{bytes_of, big_of}
use Rattle.laws.specs.Fields.{fields_of, number_of}
use Rattle.laws.specs.Limits.{longest}
use Rattle.laws.specs.Pick.{pick}
use Rattle.laws.specs.Refuse.{Test, test, refused_with}
use Rattle.laws.specs.Written.{written}
use Rattle.clock.specs.declared.Stamp.{Stamp}
use Rattle.moves.specs.Wrote.{Wrote, wrote_of}
use Rattle.clock.specs.Answers.{Stamped, no_stamp}

-- the item's fields, in its order
abbrev pub widths : List ℕ
widths = 14 ∷ 40 ∷ 10 ∷ []

abbrev pub in_order : Stamp → List ℕ
in_order t = t.utco ∷ t.seconds ∷ t.milliseconds ∷ []

-- the item's 64 bits, and the timestamp that 64 bits hold
unfoldable pub bits_of : Stamp → ℕ
bits_of t = number_of widths (in_order t)

unfoldable pub stamp_from : ℕ → Stamp
stamp_from x =
    let f = fields_of widths x in record { utco = get_or f 0 0; seconds = get_or f 1 0; milliseconds = get_or f 2 0 }

-- the item's value, and the timestamp of a value
unfoldable pub stamp_bytes : Stamp → List ℕ
stamp_bytes t = bytes_of 8 (bits_of t)

unfoldable pub stamp_of : List ℕ → Stamp
stamp_of value = stamp_from (big_of value)

-- a timestamp whose fields fit: its milliseconds are below 1,000, not only within their 10 bits
pub record Within (t : Stamp) : Type 0 where
  pub utco : t.utco < 2 ^ 14
  pub seconds : t.seconds < 2 ^ 40
  pub milliseconds : t.milliseconds ≤ 999

-- what is wrong with a timestamp handed in: a field too large for its bits, or milliseconds over 999
unfoldable pub field_tests : Stamp → List Test
field_tests t = test (leb (2 ^ 14) t.utco) 6 ∷ test (leb (2 ^ 40) t.seconds) 6 ∷ test (ltb 999 t.milliseconds) 6 ∷ []

-- ---- writing

unfoldable pub encode_tests : Stamp → List ℕ → List Test
encode_tests t out = field_tests t ++ (test (ltb (length out) 8) 1 ∷ [])

unfoldable pub encode_number : Stamp → List ℕ → ℕ
encode_number t out = refused_with (encode_tests t out)

unfoldable pub encoded_for : Stamp → List ℕ → Wrote
encoded_for t out = wrote_of (encode_number t out) 8

-- the output after the call
unfoldable pub output_for : Stamp → List ℕ → List ℕ
output_for t out = pick (eqb (encode_number t out) 0) (written out 0 (stamp_bytes t)) out

-- ---- reading

-- milliseconds over 999: the one thing that a value of 8 bytes can have wrong
unfoldable pub late : List ℕ → Bool
late value = ltb 999 (stamp_of value).milliseconds

unfoldable pub decode_tests : List ℕ → List Test
decode_tests value = test (ltb longest (length value)) 1 ∷ test (not (eqb (length value) 8)) 5 ∷ test (late value) 6 ∷ []

unfoldable pub stamped : ℕ → Stamp → Stamped
stamped n t = record { number = n; stamp = pick (eqb n 0) t no_stamp }

unfoldable pub decoded_for : List ℕ → Stamped
decoded_for value = stamped (refused_with (decode_tests value)) (stamp_of value)
