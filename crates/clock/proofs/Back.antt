-- A timestamp to 8 bytes and back, both ways: of the definitions and of the calls' answers. Assumes nothing.
use Prim.Native.Nat.{ℕ, ◌^◌, ◌<◌, ◌≤◌}
use mathlib.Core.Bool.{false}
use mathlib.Core.Path.{◌≡◌, refl, ap, ◌∙◌}
use mathlib.Core.List.{List, [], ◌∷◌}
use native.Mathlib.Nat.{mod-eq_of_lt}
use native.Mathlib.Omega.{arith}
use borrow.Author.Tests.{eq-eqb, le-ltb, ltb-false, not-false, eqb-true}
use lib.Dec.{lit<, ltb}
use lib.ListN.{length, get_or, take}
use Rattle.laws.specs.Big.{Bytes, bytes_of, big_of}
use Rattle.laws.specs.Fields.{Fit}
use Rattle.laws.specs.Refuse.{test}
use Rattle.laws.specs.Written.{written}
use Rattle.laws.proofs.Written.{front}
use Rattle.laws.proofs.Big.{big_back, bytes_back, big_lt, bytes_length}
use Rattle.laws.proofs.Fields.{fields_number, number_fields, number_lt, fields_fit}
use Rattle.laws.proofs.Refuse.{free}
use Rattle.clock.specs.declared.Stamp.{Stamp}
use Rattle.clock.specs.Stamps.{Within, widths, in_order, bits_of, stamp_from, stamp_bytes, stamp_of, late, field_tests, encode_tests, encode_number, encoded_for, output_for, decode_tests, stamped, decoded_for}
use Rattle.clock.proofs.Fit.{free_fields, within, fits}
use Rattle.laws.proofs.Join.{behind, both_free}

-- ---- the fields and the 64 bits

in_bits : (t : Stamp) → Within t → Fit widths (in_order t)
in_bits t w = (w.utco, (w.seconds, (omega (arith, w.milliseconds), tt)))

pub bits_lt : (t : Stamp) → Within t → bits_of t < 2 ^ 64
unfolding bits_of
bits_lt t w = number_lt widths (in_order t) (in_bits t w)

-- a record is its fields in order
pub stamp_bits : (t : Stamp) → Within t → stamp_from (bits_of t) ≡ t
unfolding stamp_from bits_of
stamp_bits t w =
    ap (λ (f : List ℕ). record { utco = get_or f 0 0; seconds = get_or f 1 0; milliseconds = get_or f 2 0 })
    (fields_number widths (in_order t) (in_bits t w))

pub bits_stamp : (x : ℕ) → x < 2 ^ 64 → bits_of (stamp_from x) ≡ x
unfolding stamp_from bits_of
bits_stamp x h = number_fields widths x ∙ mod-eq_of_lt h

-- ---- the timestamp and its value

pub value_length_law : (t : Stamp) → length (stamp_bytes t) ≡ 8
unfolding stamp_bytes
value_length_law t = bytes_length 8 (bits_of t)

-- read, what was written
pub stamp_back : (t : Stamp) → Within t → stamp_of (stamp_bytes t) ≡ t
unfolding stamp_of stamp_bytes
stamp_back t w = ap stamp_from (big_back 8 (bits_of t) (bits_lt t w)) ∙ stamp_bits t w

-- written, what was read
pub value_back : (value : List ℕ) → Bytes value → length value ≡ 8 → stamp_bytes (stamp_of value) ≡ value
unfolding stamp_of stamp_bytes
value_back value b l =
    let h : big_of value < 2 ^ 64 = rw l at (big_lt value b) in
    ap (bytes_of 8) (bits_stamp (big_of value) h) ∙ rw l at (bytes_back value b)

-- what was read fits, once its milliseconds do
pub read_within : (value : List ℕ) → late value ≡ false → Within (stamp_of value)
unfolding late stamp_of stamp_from
read_within value e =
    let f = fields_fit widths (big_of value) in
    record { utco = f.0; seconds = f.1.0; milliseconds = ltb-false _ _ e }

pub never_late : (t : Stamp) → Within t → late (stamp_bytes t) ≡ false
unfolding late
never_late t w = simp (stamp_back t w) (le-ltb _ _ w.milliseconds)

-- ---- the calls

module _ (t : Stamp) (out : List ℕ) where
  -- written exactly if the fields fit and the output has 8 bytes
  pub encode_takes : (encoded_for t out).number ≡ 0 → Within t × (8 ≤ length out)
  unfolding encoded_for encode_number encode_tests field_tests
  encode_takes e =
      let p = both_free (field_tests t) (test (ltb (length out) 8) 1 ∷ []) (lit< tt, (lit< tt, (lit< tt, (lit< tt, tt)))) e in
      (within t p.0, ltb-false _ _ p.1.0)

  pub encodes : Within t → 8 ≤ length out → (encoded_for t out ≡ record { number = 0; length = 8 }) × (output_for t out ≡ written out 0 (stamp_bytes t))
  unfolding encoded_for output_for encode_number encode_tests
  encodes w h =
      let k : encode_number t out ≡ 0 = behind (field_tests t) _ (free_fields t (fits t w)) ∙ simp (le-ltb _ _ h) in
      simp k (refl, refl)

module _ (value : List ℕ) where
  -- read exactly if it is 8 bytes long and not late
  pub decode_takes : (decoded_for value).number ≡ 0 → (length value ≡ 8) × (late value ≡ false)
  unfolding decoded_for stamped decode_tests
  decode_takes e =
      let f = free (decode_tests value) (lit< tt, (lit< tt, (lit< tt, tt))) e in
      (eqb-true _ _ (not-false _ f.1.0), f.1.1.0)

  pub decodes : length value ≡ 8 → late value ≡ false → decoded_for value ≡ record { number = 0; stamp = stamp_of value }
  unfolding decoded_for stamped decode_tests
  decodes l h = let s : length value ≤ 65528 = omega arith in simp (le-ltb _ _ s, eq-eqb _ _ l, h)

-- B9, decode of encode: what is accepted for writing comes back
pub decode_encode : (t : Stamp) (out : List ℕ) → (encoded_for t out).number ≡ 0
    → decoded_for (take (encoded_for t out).length (output_for t out)) ≡ record { number = 0; stamp = t }
decode_encode t out e =
    let p = encode_takes t out e in
    let q = encodes t out p.0 p.1 in
    rw (q.0, q.1, front out (stamp_bytes t) 8 (value_length_law t))
    (decodes (stamp_bytes t) (value_length_law t) (never_late t p.0) ∙ ap (λ (s : Stamp). record { number = 0; stamp = s }) (stamp_back t p.0))

-- B9, encode of decode: what is accepted for reading is written again as the same 8 bytes
pub encode_decode : (value out : List ℕ) → Bytes value → (decoded_for value).number ≡ 0 → 8 ≤ length out
    → (encoded_for (decoded_for value).stamp out ≡ record { number = 0; length = 8 }) × (output_for (decoded_for value).stamp out ≡ written out 0 value)
encode_decode value out b e h =
    let p = decode_takes value e in
    let d = decodes value p.0 p.1 in
    let q = encodes (stamp_of value) out (read_within value p.1) h in
    simp d (q.0, q.1 ∙ ap (written out 0) (value_back value b p.0))
