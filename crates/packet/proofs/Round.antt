-- What was written reads as it was (B8): the bytes of a packet are accepted, and say what it was made of. Assumes nothing.
use mathlib.Core.Path.{◌≡◌, refl, sym, ap, ◌∙◌}
use mathlib.Core.List.{List, [], ◌∷◌, ◌++◌, append_assoc, append-nil}
use mathlib.Core.Bool.{Bool, true, false}
use Prim.Native.Nat.{ℕ, ◌+◌, ◌-◌, ◌^◌, ◌≤◌, ◌<◌}
use native.Mathlib.Omega.{arith}
use borrow.Author.Tests.{eq-eqb, ne_eqb, le-leb, le-ltb, ltb-true, ltb-false}
use lib.Dec.{eqb, ltb, lit<}
use lib.ListN.{length, get_or, take, drop, replicate, length-append, length-replicate, drop_of_length-le}
use lib.Seq.{take_at, drop_at, take_all}
use Rattle.laws.specs.Pick.{pick}
use Rattle.laws.specs.Fields.{fields_of}
use Rattle.laws.specs.Big.{bytes_of, big_of, number_at}
use Rattle.laws.proofs.Fields.{fields_number}
use Rattle.laws.proofs.Big.{big_back, bytes_length}
use Rattle.crc.specs.Crc.{crc_of}
use Rattle.packet.specs.Packet.{Packet, packet_of, widths, flag, head_of, padded, data_of, plain_of, sealed, encode, body_of, decode}
use Rattle.laws.specs.Refuse.{refused_with}
use Rattle.laws.specs.Written.{written}
use Rattle.packet.specs.Calls.{wrong_word, wrong_count, tests_for, check_for, head_for, read_for, useful_for, write_tests, write_number_for, out_for}
use Rattle.packet.proofs.Writing.{data_length, all_right}

-- what can be written
pub record Fits (p : ℕ) (k : Packet) : Type 0 where
  pub low : 1 ≤ p
  pub high : p ≤ 255
  pub id_in : k.id < 4
  pub index_in : k.index < 8
  pub short : length k.chunk.body ≤ p

-- s is a packet that is not refused, and says k
pub record Says (p : ℕ) (k : Packet) (s : List ℕ) : Type 0 where
  pub len : length s ≡ p + 3
  pub right : check_for p s ≡ 0
  pub says : decode p s ≡ k

-- ---- the header
flag_fits : (b : Bool) → flag b < 2
flag_fits true = lit< tt
flag_fits false = lit< tt

pub flag_back : (b : Bool) → eqb (flag b) 1 ≡ b
flag_back true = refl
flag_back false = refl

pub head_back : (first last : Bool) (id : ℕ) (pad : Bool) (index : ℕ) → id < 4 → index < 8
    → fields_of widths (head_of first last id pad index) ≡ flag first ∷ flag last ∷ id ∷ flag pad ∷ index ∷ []
unfolding head_of
head_back first last id pad index h k =
    fields_number widths (flag first ∷ flag last ∷ id ∷ flag pad ∷ index ∷ []) (flag_fits first, (flag_fits last, (h, (flag_fits pad, (k, tt)))))

-- ---- the check word
crc_fits : (s : List ℕ) → crc_of 16 0x1021 s < 2 ^ 16
unfolding crc_of
crc_fits s = omega arith

pub sealed_length : (p : ℕ) (s : List ℕ) → length s ≡ p + 1 → length (sealed s) ≡ p + 3
unfolding sealed
sealed_length p s e = let n = bytes_length 2 (crc_of 16 0x1021 s) in length-append s (bytes_of 2 (crc_of 16 0x1021 s)) ∙ omega arith

module _ (p : ℕ) (s : List ℕ) (e : length s ≡ p + 1) where
  behind : drop (p + 1) (sealed s) ≡ bytes_of 2 (crc_of 16 0x1021 s)
  unfolding sealed
  behind = drop_at s (bytes_of 2 (crc_of 16 0x1021 s)) (p + 1) e

  before : take (p + 1) (sealed s) ≡ s
  unfolding sealed
  before = take_at s (bytes_of 2 (crc_of 16 0x1021 s)) (p + 1) e

  word_right : wrong_word p (sealed s) ≡ false
  unfolding wrong_word number_at
  word_right =
      let c = crc_of 16 0x1021 s in
      let l : length (sealed s) ≡ p + 3 = sealed_length p s e in
      let n : big_of (take 2 (drop (p + 1) (sealed s))) ≡ c =
      ap (λ (x : List ℕ). big_of (take 2 x)) behind
      ∙ ap big_of (take_all 2 (bytes_of 2 c) (let k = bytes_length 2 c in omega arith))
      ∙ big_back 2 c (crc_fits s) in
      simp (le-leb (p + 1 + 2) (length (sealed s)) (omega arith), n, before, eq-eqb c c refl)

-- ---- a packet, by its header's fields and its useful bytes
says_is : (p : ℕ) (first last : Bool) (id : ℕ) (pad : Bool) (index : ℕ) (d s : List ℕ)
    → fields_of widths (get_or s 0 0) ≡ flag first ∷ flag last ∷ id ∷ flag pad ∷ index ∷ [] → body_of p s ≡ d
    → (decode p s ≡ packet_of first last id index d) × (padded (get_or s 0 0) ≡ pad)
unfolding decode padded
says_is p first last id pad index d s e b =
    let f0 = ap (λ (l : List ℕ). eqb (get_or l 0 0) 1) e ∙ flag_back first in
    let f1 = ap (λ (l : List ℕ). eqb (get_or l 1 0) 1) e ∙ flag_back last in
    let f2 = ap (λ (l : List ℕ). get_or l 2 0) e in
    let f3 = ap (λ (l : List ℕ). eqb (get_or l 3 0) 1) e ∙ flag_back pad in
    let f4 = ap (λ (l : List ℕ). get_or l 4 0) e in
    (simp (f0, f1, f2, f4, b), f3)

right_is : (p : ℕ) (s : List ℕ) (pad : Bool) → 1 ≤ p → p ≤ 255 → length s ≡ p + 3 → wrong_word p s ≡ false → padded (get_or s 0 0) ≡ pad
    → (pad ≡ true → get_or s 1 0 ≤ p - 1) → check_for p s ≡ 0
unfolding check_for tests_for wrong_count
right_is p s true low high l w e c =
    simp (ne_eqb p 0 (λ z. omega arith), le-ltb 255 p high, eq-eqb _ _ l, w, e, le-ltb (p - 1) (get_or s 1 0) (c refl))
right_is p s false low high l w e c = simp (ne_eqb p 0 (λ z. omega arith), le-ltb 255 p high, eq-eqb _ _ l, w, e)

module _ (p : ℕ) (first last : Bool) (id index : ℕ) (d : List ℕ) (t : Fits p (packet_of first last id index d)) where
  abbrev K : Packet
  K = packet_of first last id index d

  -- the same bytes, by whether the packet is padded
  abbrev plain : Bool → List ℕ
  plain pad = head_of first last id pad index ∷ pick pad (length d ∷ (d ++ replicate (p - 1 - length d) 0)) d

  abbrev bytes : Bool → List ℕ
  bytes pad = sealed (plain pad)

  joined : (pad : Bool) → length (pick pad (length d ∷ (d ++ replicate (p - 1 - length d) 0)) d) ≡ p → body_of p (bytes pad) ≡ d
      → (pad ≡ true → get_or (bytes pad) 1 0 ≤ p - 1) → Says p K (bytes pad)
  unfolding sealed
  joined pad l b c =
      let n : length (plain pad) ≡ p + 1 = omega arith in
      let k = says_is p first last id pad index d (bytes pad) (head_back first last id pad index t.id_in t.index_in) b in
      record {
        len = sealed_length p (plain pad) n;
        right = right_is p (bytes pad) pad t.low t.high (sealed_length p (plain pad) n) (word_right p (plain pad) n) k.1 c;
        says = k.0;
      }

  padded_is : (first last : Bool) (pad : Bool) → padded (head_of first last id pad index) ≡ pad
  unfolding padded
  padded_is f l pad = ap (λ (x : List ℕ). eqb (get_or x 3 0) 1) (head_back f l id pad index t.id_in t.index_in) ∙ flag_back pad

  body_padded : body_of p (bytes true) ≡ d
  unfolding body_of sealed
  body_padded =
      let z : List ℕ = replicate (p - 1 - length d) 0 in
      let w = bytes_of 2 (crc_of 16 0x1021 (head_of first last id true index ∷ length d ∷ (d ++ z))) in
      rw (padded_is first last true) (ap (take (length d)) (append_assoc d z w) ∙ take_at d (z ++ w) (length d) refl)

  count_in : length d < p → get_or (bytes true) 1 0 ≤ p - 1
  unfolding sealed
  count_in h = omega arith

  body_full : length d ≡ p → body_of p (bytes false) ≡ d
  unfolding body_of sealed
  body_full e =
      let w = bytes_of 2 (crc_of 16 0x1021 (head_of first last id false index ∷ d)) in
      rw (padded_is first last false) (take_at d w p e)

  round_any : (pad : Bool) → ltb (length d) p ≡ pad → Says p K (bytes pad)
  round_any true e =
      let h : length d < p = ltb-true _ _ e in
      let z : List ℕ = replicate (p - 1 - length d) 0 in
      let l : length (d ++ z) ≡ p - 1 = length-append d z ∙ ap (λ (k : ℕ). length d + k) (length-replicate {A = ℕ} (p - 1 - length d) 0) ∙ omega arith in
      joined true (omega arith) body_padded (λ x. count_in h)
  round_any false e =
      let h : p ≤ length d = ltb-false _ _ e in
      let k : length d ≡ p = let o = t.short in omega arith in
      joined false k (body_full k) (λ x. absurd (mathlib.Core.Bool.false≢true x))

pub round : (p : ℕ) (k : Packet) → Fits p k → Says p k (encode p k)
unfolding encode plain_of data_of
round p k t =
    let d = k.chunk.body in
    round_any p k.chunk.first k.chunk.last k.id k.index d t (ltb (length d) p) refl

-- so the calls give back what was written
pub read_back : (p : ℕ) (k : Packet) → Fits p k
    → (read_for p (encode p k) ≡ head_for p (encode p k)) × (decode p (encode p k) ≡ k) × (useful_for p (encode p k) ≡ k.chunk.body)
unfolding read_for useful_for
read_back p k t = let s = round p k t in (simp s.right, s.says, simp (s.right, s.says))

-- an output of just its length is the packet
pub encode_length : (p : ℕ) (k : Packet) → 1 ≤ p → length k.chunk.body ≤ p → length (encode p k) ≡ p + 3
unfolding encode plain_of
encode_length p k lo h = let n = data_length p k.chunk.body h in sealed_length p _ (omega arith)

pub write_whole : (p : ℕ) (k : Packet) (out : List ℕ) → Fits p k → length out ≡ p + 3 → out_for p k out ≡ encode p k
unfolding out_for write_number_for written
write_whole p k out t l =
    let n : refused_with (write_tests p k.id k.index (length k.chunk.body) (length out)) ≡ 0 =
    let i = t.id_in in
    let x = t.index_in in
    let o = t.low in
    sym (all_right p k.id k.index (length k.chunk.body) (length out) (λ z. omega arith) t.high t.short (omega arith) (omega arith) (omega arith)) in
    let m : length (encode p k) ≡ p + 3 = encode_length p k t.low t.short in
    rw n (ap (λ (w : List ℕ). encode p k ++ w) (drop_of_length-le out {i = 0 + length (encode p k)} (omega arith)) ∙ append-nil (encode p k))
