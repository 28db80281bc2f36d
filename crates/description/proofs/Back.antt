-- Reading and writing a description are each other's inverse, as a value and as an entity. Assumes nothing.
use mathlib.Core.Path.{◌≡◌, refl, sym, ap, ap₂, ◌∙◌, subst}
use mathlib.Core.Bool.{Bool, true, false, ◌||◌}
use mathlib.Core.List.{List, [], ◌∷◌, ◌++◌}
use mathlib.Core.Logic.{⊎_elim}
use Prim.Native.Nat.{ℕ, zero, suc, ◌+◌, ◌*◌, ◌/◌, ◌%◌, ◌^◌, ◌≤◌, ◌<◌}
use native.Mathlib.Nat.{div-one, mod-eq_of_lt}
use native.Mathlib.Omega.{arith}
use borrow.Author.Tests.{le-leb, lt-leb, ltb-false, leb-true, leb-false}
use lib.Dec.{ltb, leb, lit<}
use lib.ListN.{length, get_or, take, drop, length-append, get_or-eq_default, length-drop, drop_of_length-le, take-append-drop}
use lib.Seq.{take_at, drop_at, drop-drop, get_or-take, length-take-le}
use Rattle.laws.proofs.Big.{bytes_take, bytes_drop}
use Rattle.laws.specs.Big.{bytes_of, big_of, Bytes}
use Rattle.laws.specs.Fields.{total, fields_of, number_of, Fit}
use Rattle.laws.specs.Pick.{pick}
use Rattle.laws.proofs.Big.{big_back, bytes_back, big_lt}
use Rattle.laws.proofs.Fields.{number_fields, fields_number, number_lt}
use Rattle.description.specs.declared.Lengths.{Lengths}
use Rattle.description.specs.declared.Description.{Description}
use Rattle.description.specs.Bytes.{fields_in, level_bits, length_bits, no_stream, streams, length_bytes, stream_bytes, value_of, lengths_of, slot_at, described_by}
use Rattle.description.specs.WellFormed.{any, over, is_too_large}
use Rattle.description.proofs.Tests.{four}
use Rattle.description.proofs.Writing.{neither, lengths_length, streams_length}
use Rattle.description.proofs.Meaning.{within}

-- for every layout of whole bytes: the fields are read as they were written, and the bytes are written as they were read
pub laid_back : (ws vs : List ℕ) (n : ℕ) → total ws ≡ 8 * n → Fit ws vs → fields_of ws (big_of (bytes_of n (number_of ws vs))) ≡ vs
laid_back ws vs n e f =
    let b : number_of ws vs < 2 ^ (8 * n) = subst (λ (k : ℕ). number_of ws vs < 2 ^ k) e (number_lt ws vs f) in
    ap (fields_of ws) (big_back n (number_of ws vs) b) ∙ fields_number ws vs f

pub laid_forth : (ws s : List ℕ) → total ws ≡ 8 * length s → Bytes s → bytes_of (length s) (number_of ws (fields_of ws (big_of s))) ≡ s
laid_forth ws s e b =
    let h : big_of s < 2 ^ total ws = subst (λ (k : ℕ). big_of s < 2 ^ k) (sym e) (big_lt s b) in
    ap (bytes_of (length s)) (number_fields ws (big_of s) ∙ mod-eq_of_lt h) ∙ bytes_back s b

-- the lengths of a stream
abbrev Fits : Lengths → Type 0
Fits l = (l.a < 4096) × (l.b < 4096)

lengths_back : (l : Lengths) → Fits l → lengths_of (length_bytes l) ≡ l
unfolding lengths_of length_bytes
lengths_back l f =
    let e = laid_back length_bits (l.a ∷ l.b ∷ []) 3 refl (f.0, (f.1, tt)) in
    ap (λ (fs : List ℕ). record { a = get_or fs 0 0; b = get_or fs 1 0 }) e

-- the streams, one behind the other
abbrev AllFit : List Lengths → Type 0
AllFit [] = Unit {0}
AllFit (l ∷ ls) = Fits l × AllFit ls

same_test : (a b c d : ℕ) → (c ≤ d → a ≤ b) → (d < c → b < a) → leb a b ≡ leb c d
same_test a b c d f g = go (leb c d) refl
  where
    go : (t : Bool) → leb c d ≡ t → leb a b ≡ t
    go true e = le-leb a b (f (leb-true c d e))
    go false e = lt-leb a b (g (leb-false c d e))

piece : (ls : List Lengths) → AllFit ls → (i : ℕ)
    → pick (leb (3 * i + 3) (length (stream_bytes ls))) (lengths_of (take 3 (drop (3 * i) (stream_bytes ls)))) no_stream ≡ get_or ls i no_stream
unfolding stream_bytes
piece [] f i = rw (lt-leb (3 * i + 3) 0 (omega arith))
piece (l ∷ ls) f zero =
    let n : length (length_bytes l ++ stream_bytes ls) ≡ 3 + length (stream_bytes ls) = length-append (length_bytes l) (stream_bytes ls) ∙ ap (λ (k : ℕ). k + length (stream_bytes ls)) (lengths_length l) in
    rw (le-leb (3 * 0 + 3) (length (length_bytes l ++ stream_bytes ls)) (omega arith), take_at (length_bytes l) (stream_bytes ls) 3 (lengths_length l)) (lengths_back l f.0)
piece (l ∷ ls) f (suc i) =
    let S = stream_bytes ls in
    let n : length (length_bytes l ++ S) ≡ 3 + length S = length-append (length_bytes l) S ∙ ap (λ (k : ℕ). k + length S) (lengths_length l) in
    let t : leb (3 * suc i + 3) (length (length_bytes l ++ S)) ≡ leb (3 * i + 3) (length S) =
    same_test (3 * suc i + 3) (length (length_bytes l ++ S)) (3 * i + 3) (length S) (λ h. omega arith) (λ h. omega arith) in
    let k : 3 * suc i ≡ 3 + 3 * i = omega arith in
    let m : drop (3 * suc i) (length_bytes l ++ S) ≡ drop (3 * i) S =
    ap (λ (j : ℕ). drop j (length_bytes l ++ S)) k ∙ sym (drop-drop (3 * i) 3 (length_bytes l ++ S)) ∙ ap (drop (3 * i)) (drop_at (length_bytes l) S 3 (lengths_length l)) in
    rw (t, m) (piece ls f.1 i)

-- behind a first byte
slot_back : (x : ℕ) (ls : List Lengths) → AllFit ls → (i at : ℕ) → at ≡ suc (3 * i) → slot_at (x ∷ stream_bytes ls) at ≡ get_or ls i no_stream
unfolding slot_at
slot_back x ls f i at e =
    let t : leb (suc (3 * i) + 3) (suc (length (stream_bytes ls))) ≡ leb (3 * i + 3) (length (stream_bytes ls)) =
    same_test (suc (3 * i) + 3) (suc (length (stream_bytes ls))) (3 * i + 3) (length (stream_bytes ls)) (λ h. omega arith) (λ h. omega arith) in
    rw (e, t) (piece ls f i)

all_fit : (s : List Lengths) (c : ℕ) → any over s ≡ false → AllFit (take c s)
all_fit s zero e = tt
all_fit [] (suc c) e = tt
all_fit (l ∷ s) (suc c) e =
    let p = neither (over l) (any over s) e in
    let q = neither (ltb 4095 l.a) (ltb 4095 l.b) p.0 in
    let x = ltb-false 4095 l.a q.0 in
    let y = ltb-false 4095 l.b q.1 in
    ((omega arith, omega arith), all_fit s c p.1)

-- a description within its bits, its count and its slots: what is read again is the description
module _ (d : Description) (size : length d.stream ≡ 4) (most : d.count ≤ 4) (large : is_too_large d ≡ false)
    (behind : (i : ℕ) → d.count ≤ i → get_or d.stream i no_stream ≡ no_stream) where
  slot : (i at : ℕ) → at ≡ suc (3 * i) → slot_at (value_of d) at ≡ get_or d.stream i no_stream
  unfolding value_of bytes_of is_too_large
  slot i at e =
      let w = neither (ltb 3 d.level.a || ltb 3 d.level.b) (any over d.stream) large in
      let n = length-take-le d.count d.stream (omega arith) in
      slot_back _ (streams d) (all_fit d.stream d.count w.1) i at e
      ∙ ⊎_elim
      (λ h. get_or-take d.count d.stream i no_stream h)
      (λ h. get_or-eq_default (streams d) no_stream {n = i} (omega arith) ∙ sym (behind i h))
      (within i d.count)

  pub level_fields : fields_in level_bits (take 1 (value_of d)) ≡ 0 ∷ d.level.a ∷ d.level.b ∷ []
  unfolding value_of bytes_of is_too_large
  level_fields =
      let w = neither (ltb 3 d.level.a) (ltb 3 d.level.b)
      (neither (ltb 3 d.level.a || ltb 3 d.level.b) (any over d.stream) large).0 in
      let x = ltb-false 3 d.level.a w.0 in
      let y = ltb-false 3 d.level.b w.1 in
      laid_back level_bits (0 ∷ d.level.a ∷ d.level.b ∷ []) 1 refl (lit< tt, (omega arith, (omega arith, tt)))

  pub value_length_law : length (value_of d) ≡ 1 + 3 * d.count
  unfolding value_of bytes_of
  value_length_law =
      let n = length-take-le d.count d.stream (omega arith) in
      let m = streams_length (streams d) in
      omega arith

  pub described_back : described_by (value_of d) ≡ d
  unfolding described_by
  described_back =
      let v = value_of d in
      let s : slot_at v 1 ∷ slot_at v 4 ∷ slot_at v 7 ∷ slot_at v 10 ∷ [] ≡ d.stream =
      rw (slot 0 1 refl, slot 1 4 refl, slot 2 7 refl, slot 3 10 refl) (sym (four d.stream size)) in
      let c : length v / 3 ≡ d.count = rw value_length_law (omega arith) in
      ap
      (λ (fs : List ℕ).
      record {
        level = record { a = get_or fs 1 0; b = get_or fs 2 0 };
        count = length v / 3;
        stream = slot_at v 1 ∷ slot_at v 4 ∷ slot_at v 7 ∷ slot_at v 10 ∷ [];
      })
      level_fields
      ∙ ap₂ (λ (k : ℕ) (t : List Lengths). record { level = d.level; count = k; stream = t }) c s

-- a value of whole bytes: what is written again is the value, its reserved bits 0
lengths_forth : (s : List ℕ) → length s ≡ 3 → Bytes s → length_bytes (lengths_of s) ≡ s
unfolding lengths_of length_bytes
lengths_forth s n b =
    let e : bytes_of (length s) (number_of length_bits (fields_of length_bits (big_of s))) ≡ s = laid_forth length_bits s (rw n) b in
    rw n at e

-- the slots of a value, n of them from an offset on
slots : List ℕ → ℕ → ℕ → List Lengths
slots v zero at = []
slots v (suc n) at = slot_at v at ∷ slots v n (at + 3)

run : (v : List ℕ) → Bytes v → (n at : ℕ) → at + 3 * n ≡ length v → stream_bytes (slots v n at) ≡ drop at v
unfolding slots stream_bytes slot_at
run v b zero at e = sym (drop_of_length-le v {i = at} (omega arith))
run v b (suc n) at e =
    let m = length-drop at v in
    let l : length (take 3 (drop at v)) ≡ 3 = length-take-le 3 (drop at v) (omega arith) in
    rw (le-leb (at + 3) (length v) (omega arith), lengths_forth (take 3 (drop at v)) l (bytes_take 3 (drop at v) (bytes_drop at v b)), run v b n (at + 3) (omega arith))
    (ap (λ (t : List ℕ). take 3 (drop at v) ++ t) (sym (drop-drop 3 at v)) ∙ take-append-drop 3 (drop at v))

few_slots : (v : List ℕ) (n : ℕ) → n ≤ 4 → take n (slot_at v 1 ∷ slot_at v 4 ∷ slot_at v 7 ∷ slot_at v 10 ∷ []) ≡ slots v n 1
unfolding slots
few_slots v zero h = refl
few_slots v (suc zero) h = refl
few_slots v (suc (suc zero)) h = refl
few_slots v (suc (suc (suc zero))) h = refl
few_slots v (suc (suc (suc (suc zero)))) h = refl
few_slots v (suc (suc (suc (suc (suc n))))) h = absurd (omega arith)

pub value_forth : (v : List ℕ) (n : ℕ) → Bytes v → length v ≡ 1 + 3 * n → n ≤ 4 → value_of (described_by v) ≡ get_or v 0 0 % 16 ∷ drop 1 v
unfolding value_of described_by bytes_of big_of
value_forth [] n b e h = absurd (omega arith)
value_forth (x ∷ t) n b e h =
    let v = x ∷ t in
    let c : length v / 3 ≡ n = omega arith in
    let k : (0 * 16 + ((x * 1 + 0) / 4 % 4 * 4 + ((x * 1 + 0) / 1 % 4 * 1 + 0))) / 1 % 256 ≡ x % 16 = rw (div-one, div-one) (omega arith) in
    ap₂ (λ (y : ℕ) (s : List ℕ). y ∷ s) k (rw (c, few_slots v n h) (run v b n 1 (sym e)))
