-- The fast access channel to 9 bytes and back, both ways: of the definitions and of the calls' answers. Assumes nothing.
use Prim.Native.Nat.{ℕ, ◌+◌, ◌^◌, ◌<◌, ◌≤◌}
use mathlib.Core.Bool.{true, false}
use mathlib.Core.Path.{◌≡◌, refl, sym, ap, ◌∙◌}
use mathlib.Core.List.{List, [], ◌∷◌, ◌++◌}
use native.Mathlib.Nat.{mod-eq_of_lt}
use native.Mathlib.Omega.{arith}
use borrow.Author.Tests.{eq-eqb, le-ltb, le-leb, eqb-true, not-false}
use lib.Dec.{lit<, leb}
use lib.ListN.{length, get_or, take, drop, length-append, take-append-drop, drop_of_length-le}
use lib.Seq.{take_at, drop-cons, length-take-le}
use Rattle.laws.specs.Big.{Bytes, bytes_of, big_of, number_at}
use Rattle.laws.specs.Fields.{fields_of}
use Rattle.laws.specs.Written.{written}
use Rattle.laws.proofs.Big.{big_back, bytes_back, big_lt, bytes_length, bytes_take}
use Rattle.laws.proofs.Fields.{fields_number, number_fields, number_lt, fields_fit}
use Rattle.laws.proofs.Flags.{and_r}
use Rattle.laws.proofs.Refuse.{free}
use Rattle.laws.proofs.Written.{front}
use Rattle.fields.proofs.Reading.{number_in}
use Rattle.crc.specs.Crc.{crc_of}
use Rattle.fac.specs.declared.Fac.{Fac}
use Rattle.fac.specs.Channel.{widths, in_order, from_fields, bits_of, fac_from, sealed8, fac_bytes, fac_of, sealed, is_too_large, not_served}
use Rattle.fac.specs.Answers.{read_tests, announced, read_for, write_tests, write_number, write_for, out_for}
use Rattle.fac.proofs.Fits.{fits, of_fit}
use Rattle.fac.proofs.Ways.{writable}

-- ---- the fields and the 64 bits
pub bits_lt : (f : Fac) → is_too_large f ≡ false → bits_of f < 2 ^ 64
unfolding bits_of
bits_lt f e = number_lt widths (in_order f) (fits f e)

pub fac_bits : (f : Fac) → is_too_large f ≡ false → fac_from (bits_of f) ≡ f
unfolding fac_from bits_of
fac_bits f e = ap from_fields (fields_number widths (in_order f) (fits f e))

pub bits_fac : (x : ℕ) → x < 2 ^ 64 → bits_of (fac_from x) ≡ x
unfolding fac_from bits_of
bits_fac x h = number_fields widths x ∙ mod-eq_of_lt h

-- what was read fits
pub small : (v : List ℕ) → is_too_large (fac_of v) ≡ false
unfolding is_too_large fac_of fac_from
small v = of_fit widths (fields_of widths (number_at 8 v 0)) (fields_fit widths (number_at 8 v 0))

-- ---- the record and its value
pub value_length_law : (f : Fac) → length (fac_bytes f) ≡ 9
unfolding fac_bytes sealed8
value_length_law f = length-append (bytes_of 8 (bits_of f)) _ ∙ ap (λ (n : ℕ). n + 1) (bytes_length 8 (bits_of f))

module _ (f : Fac) where
  s : List ℕ
  s = bytes_of 8 (bits_of f)

  l : length s ≡ 8
  unfolding s
  l = bytes_length 8 (bits_of f)

  head : (c : ℕ) → take 8 (s ++ (c ∷ [])) ≡ s
  head c = take_at s (c ∷ []) 8 l

  last : (c : ℕ) → get_or (s ++ (c ∷ [])) 8 0 ≡ c
  unfolding s bytes_of
  last c = refl

  pub fac_back : is_too_large f ≡ false → fac_of (fac_bytes f) ≡ f
  unfolding fac_of fac_bytes sealed8 s
  fac_back e =
      let h : 8 ≤ length (fac_bytes f) = rw (value_length_law f) (omega arith) in
      ap fac_from (number_in 8 (fac_bytes f) 0 h ∙ ap big_of (head (crc_of 8 0x1d s)) ∙ big_back 8 (bits_of f) (bits_lt f e)) ∙ fac_bits f e

  pub sealed_back : sealed (fac_bytes f) ≡ true
  unfolding sealed fac_bytes sealed8 s
  sealed_back =
      let h : 9 ≤ length (fac_bytes f) = rw (value_length_law f) (omega arith) in
      let c = crc_of 8 0x1d s in
      rw (le-leb _ _ h) (eq-eqb _ _ (ap (crc_of 8 0x1d) (head c) ∙ sym (last c)))

-- written, what was read
pub value_back : (v : List ℕ) → Bytes v → length v ≡ 9 → sealed v ≡ true → fac_bytes (fac_of v) ≡ v
unfolding fac_bytes sealed8 fac_of sealed
value_back v b n e =
    let t : List ℕ = take 8 v in
    let l : length t ≡ 8 = length-take-le 8 v (omega arith) in
    let bt : Bytes t = bytes_take 8 v b in
    let x : number_at 8 v 0 ≡ big_of t = number_in 8 v 0 (omega arith) in
    let h : big_of t < 2 ^ 64 = rw l at (big_lt t bt) in
    let q : bytes_of 8 (bits_of (fac_from (number_at 8 v 0))) ≡ t =
    ap (λ (k : ℕ). bytes_of 8 (bits_of (fac_from k))) x ∙ ap (bytes_of 8) (bits_fac (big_of t) h) ∙ rw l at (bytes_back t bt) in
    let c : crc_of 8 0x1d t ≡ get_or v 8 0 = eqb-true _ _ (and_r (leb 9 (length v)) _ e) in
    let z : drop 8 v ≡ get_or v 8 0 ∷ [] = drop-cons v 8 0 (omega arith) ∙ ap (λ (r : List ℕ). get_or v 8 0 ∷ r) (drop_of_length-le v {i = 9} (omega arith)) in
    ap (λ (r : List ℕ). r ++ (crc_of 8 0x1d r ∷ [])) q ∙ ap (λ (k : ℕ). t ++ (k ∷ [])) c ∙ ap (λ (r : List ℕ). t ++ r) (sym z) ∙ take-append-drop 8 v

-- ---- the calls
module _ (v : List ℕ) where
  -- read exactly if it is 9 bytes long, sealed and served
  pub read_takes : (read_for v).number ≡ 0 → (length v ≡ 9) × (sealed v ≡ true) × (not_served (fac_of v) ≡ false)
  unfolding read_for announced read_tests
  read_takes e =
      let f = free (read_tests v) (lit< tt, (lit< tt, (lit< tt, (lit< tt, tt)))) e in
      (eqb-true _ _ (not-false _ f.1.0), not-false _ f.1.1.0, f.1.1.1.0)

  pub reads : length v ≡ 9 → sealed v ≡ true → not_served (fac_of v) ≡ false → read_for v ≡ record { number = 0; fac = fac_of v }
  unfolding read_for announced read_tests
  reads l s u = let h : length v ≤ 65528 = omega arith in simp (le-ltb _ _ h, eq-eqb _ _ l, s, u)

-- written exactly if every field fits, the channel is served and the output has 9 bytes
pub write_takes : (f : Fac) (out : List ℕ) → (write_for f (length out)).number ≡ 0 → (is_too_large f ≡ false) × (not_served f ≡ false) × (9 ≤ length out)
unfolding write_for write_number
write_takes f out e = writable f (length out) e

pub writes : (f : Fac) (out : List ℕ) → is_too_large f ≡ false → not_served f ≡ false → 9 ≤ length out
    → (write_for f (length out) ≡ record { number = 0; length = 9 }) × (out_for f out ≡ written out 0 (fac_bytes f))
unfolding write_for out_for write_number write_tests
writes f out t u h = simp (t, u, le-ltb _ _ h) (refl, refl)

-- read of write: what is accepted for writing comes back
pub read_write : (f : Fac) (out : List ℕ) → (write_for f (length out)).number ≡ 0
    → read_for (take (write_for f (length out)).length (out_for f out)) ≡ record { number = 0; fac = f }
read_write f out e =
    let p = write_takes f out e in
    let q = writes f out p.0 p.1 p.2 in
    let b = fac_back f p.0 in
    rw (q.0, q.1, front out (fac_bytes f) 9 (value_length_law f))
    (reads (fac_bytes f) (value_length_law f) (sealed_back f) (ap not_served b ∙ p.1) ∙ ap (λ (g : Fac). record { number = 0; fac = g }) b)

-- write of read: what is accepted for reading is written again as the same 9 bytes
pub write_read : (v out : List ℕ) → Bytes v → (read_for v).number ≡ 0 → 9 ≤ length out
    → (write_for (read_for v).fac (length out) ≡ record { number = 0; length = 9 }) × (out_for (read_for v).fac out ≡ written out 0 v)
write_read v out b e h =
    let p = read_takes v e in
    let d = reads v p.0 p.1 p.2 in
    let q = writes (fac_of v) out (small v) p.2 h in
    simp d (q.0, q.1 ∙ ap (written out 0) (value_back v b p.0 p.1))
