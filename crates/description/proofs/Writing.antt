-- The tests before a write, the value as it is written, and what the writers answer. Assumes nothing.
use mathlib.Core.Path.{◌≡◌, refl, sym, ap, ◌∙◌}
use mathlib.Core.Bool.{Bool, true, false, ◌||◌}
use mathlib.Core.List.{List, [], ◌∷◌, ◌++◌, append_assoc, append-nil}
use Prim.Native.Nat.{ℕ, ◌+◌, ◌*◌, ◌/◌, ◌%◌, ◌≤◌, ◌<◌}
use native.Mathlib.Nat.{div-one, zero-add}
use native.Mathlib.Numerals.{add-one}
use native.Mathlib.Omega.{arith}
use borrow.Author.Tests.{lt-ltb, le-ltb, ltb-false, ne_eqb}
use lib.Dec.{ltb, eqb, lit<}
use lib.ListN.{length, get_or, take, set, length-append}
use lib.Seq.{take-suc, take_all, length-take-le}
use Rattle.laws.specs.Big.{bytes_of}
use Rattle.laws.specs.Pick.{pick}
use Rattle.laws.specs.Refuse.{Test, test, refused_with}
use Rattle.laws.specs.Written.{written}
use Rattle.laws.proofs.Refuse.{free}
use Rattle.laws.proofs.Written.{set_written, write_next}
use Rattle.description.specs.declared.Lengths.{Lengths}
use Rattle.description.specs.declared.Description.{Description}
use Rattle.description.specs.Bytes.{no_stream, streams, length_bytes, stream_bytes, value_of, entity_of}
use Rattle.description.specs.WellFormed.{is_too_large, wrong_count, wrong_slots, wrong_level, wrong_mode, ill_formed}
use Rattle.description.specs.Answers.{unserved, handed, value_size, writing_tests, write_tests, write_for, output_for, write_entity_tests, write_entity_for, entity_output_for}

pub neither : (a b : Bool) → (a || b) ≡ false → (a ≡ false) × (b ≡ false)
neither true b e = absurd (let z : ◌≡◌ {A = ℕ} 0 1 = cc in omega arith)
neither false b e = (refl, e)

pub none_of : (a b c d : Bool) → (a || b || c || d) ≡ false → (a ≡ false) × (b ≡ false) × (c ≡ false) × (d ≡ false)
none_of a b c d e =
    let p = neither (a || b || c) d e in
    let q = neither (a || b) c p.0 in
    let r = neither a b q.0 in
    (r.0, r.1, q.1, p.1)

-- the count is one to four
few_of : (mode : ℕ) (d : Description) → ill_formed mode d ≡ false → d.count ≤ 4
unfolding ill_formed
few_of mode d e =
    let w = none_of (wrong_count d) (wrong_slots d) (wrong_level d) (wrong_mode mode d) e in
    ltb-false 4 d.count (neither (eqb d.count 0) (ltb 4 d.count) w.0).1

-- three tests, and what follows them
three : (a b c : Bool) (r n : ℕ) → n ≡ pick a 6 (pick b 9 (pick c 10 0)) → pick a 6 (pick b 9 (pick c 10 r)) ≡ pick (eqb n 0) r n
three true b c r n e = rw e
three false true c r n e = rw e
three false false true r n e = rw e
three false false false r n e = rw e

module _ (large : Bool) (d : Description) (mode n : ℕ) (e : n ≡ refused_with (handed large d mode [])) where
  pub handed_then : (ts : List Test) → refused_with (handed large d mode ts) ≡ pick (eqb n 0) (refused_with ts) n
  unfolding handed
  handed_then ts = three (large || is_too_large d || ltb 3 mode) (unserved mode) (ill_formed mode d) (refused_with ts) n e

  pub handed_stops : (n ≡ 0 → ⊥) → (ts : List Test) → n ≡ refused_with (handed large d mode ts)
  handed_stops z ts = sym (handed_then ts ∙ rw (ne_eqb n 0 z))

  pub handed_goes : n ≡ 0 → (ts : List Test) → refused_with ts ≡ refused_with (handed large d mode ts)
  handed_goes z ts = sym (handed_then ts ∙ rw z)

  pub few : n ≡ 0 → d.count ≤ 4
  unfolding handed
  few z = few_of mode d (free (handed large d mode []) (lit< tt, (lit< tt, (lit< tt, tt))) (sym e ∙ z)).1.1.0

  module _ (size room : ℕ) where
    pub writing_stops : (n ≡ 0 → ⊥) → n ≡ refused_with (writing_tests large d mode size room)
    unfolding writing_tests
    writing_stops z = handed_stops z (test (ltb room size) 1 ∷ [])

    pub writing_short : n ≡ 0 → room < size → 1 ≡ refused_with (writing_tests large d mode size room)
    unfolding writing_tests
    writing_short z h =
        let k : ◌≡◌ {A = ℕ} 1 (pick (ltb room size) 1 0) = rw (lt-ltb room size h) in
        k ∙ handed_goes z (test (ltb room size) 1 ∷ [])

    pub writing_fits : n ≡ 0 → size ≤ room → 0 ≡ refused_with (writing_tests large d mode size room)
    unfolding writing_tests
    writing_fits z h =
        let k : ◌≡◌ {A = ℕ} 0 (pick (ltb room size) 1 0) = rw (le-ltb room size h) in
        k ∙ handed_goes z (test (ltb room size) 1 ∷ [])

-- the streams, one behind the other
pub lengths_length : (l : Lengths) → length (length_bytes l) ≡ 3
unfolding length_bytes bytes_of
lengths_length l = refl

pub streams_length : (ls : List Lengths) → length (stream_bytes ls) ≡ 3 * length ls
unfolding stream_bytes
streams_length [] = refl
streams_length (l ∷ ls) =
    let p = lengths_length l in
    let q = streams_length ls in
    simp length-append (omega arith)

stream_last : (ls : List Lengths) (l : Lengths) → stream_bytes ls ++ length_bytes l ≡ stream_bytes (ls ++ (l ∷ []))
unfolding stream_bytes
stream_last [] l = sym (append-nil (length_bytes l))
stream_last (k ∷ ls) l = append_assoc (length_bytes k) (stream_bytes ls) (length_bytes l) ∙ ap (λ (x : List ℕ). length_bytes k ++ x) (stream_last ls l)

-- one stream more
pub stream_turn : (d e f : List ℕ) (at : ℕ) (s : List Lengths) (i : ℕ) (l : Lengths) → i < length s → at + (1 + 3 * i) ≤ length d
    → l ≡ get_or s i no_stream → e ≡ written d (at + 1) (stream_bytes (take i s)) → f ≡ written e (at + (1 + 3 * i)) (length_bytes l)
    → f ≡ written d (at + 1) (stream_bytes (take (i + 1) s))
stream_turn d e f at s i l h fits p q r =
    let n : length (take i s) ≡ i = length-take-le i s (omega arith) in
    let m : length (stream_bytes (take i s)) ≡ 3 * length (take i s) = streams_length (take i s) in
    r ∙ write_next d e (at + 1) (stream_bytes (take i s)) (length_bytes l) (at + (1 + 3 * i)) (omega arith) fits q
    ∙ ap (written d (at + 1)) (rw (p, add-one, take-suc s i no_stream) (stream_last (take i s) (get_or s i no_stream)))

-- the first byte, and the streams behind it
pub value_written : (d e : List ℕ) (at x y i : ℕ) (v : Description) → at + value_size v ≤ length d → x ≡ v.level.a → y ≡ v.level.b
    → length (streams v) ≤ i → e ≡ written (set d at ((x * 4 + y) % 256)) (at + 1) (stream_bytes (take i (streams v)))
    → e ≡ written d at (value_of v)
unfolding value_of bytes_of
value_written d e at x y i v fits p q m r =
    let b = (x * 4 + y) % 256 in
    let k : (0 * 16 + (v.level.a * 4 + (v.level.b * 1 + 0))) / 1 % 256 ≡ (x * 4 + y) % 256 = rw (div-one, p, q) (omega arith) in
    r ∙ write_next d (set d at b) at (b ∷ []) (stream_bytes (take i (streams v))) (at + 1) refl (omega arith) (set_written d at b (omega arith))
    ∙ rw (k, take_all i (streams v) m) refl

-- nothing refused: the bytes have room
pub writable : (large : Bool) (d : Description) (mode size room n : ℕ) → n ≡ refused_with (writing_tests large d mode size room) → n ≡ 0
    → (d.count ≤ 4) × (size ≤ room) × (large ≡ false)
unfolding writing_tests handed
writable large d mode size room n e z =
    let f = free (writing_tests large d mode size room) (lit< tt, (lit< tt, (lit< tt, (lit< tt, tt)))) (sym e ∙ z) in (
      few_of mode d f.1.1.0,
      ltb-false room size f.1.1.1.0,
      (neither large (is_too_large d) (neither (large || is_too_large d) (ltb 3 mode) f.0).0).0,
    )

module _ (d : Description) (mode n : ℕ) (out : List ℕ) (e : n ≡ refused_with (writing_tests false d mode (0 + value_size d) (length out))) where
  same : refused_with (write_tests d mode out) ≡ n
  unfolding write_tests
  same = sym (e ∙ ap (λ (k : ℕ). refused_with (writing_tests false d mode k (length out))) (zero-add (value_size d)))

  pub write_refused : (n ≡ 0 → ⊥) → (record { number = n; length = 0 } ≡ write_for d mode out) × (out ≡ output_for d mode out)
  unfolding write_for output_for
  write_refused z = rw (same, ne_eqb n 0 z) (refl, refl)

  pub write_done : n ≡ 0 → (size : ℕ) → size ≡ 0 + value_size d → (r : List ℕ) → r ≡ written out 0 (value_of d)
      → (record { number = 0; length = size } ≡ write_for d mode out) × (r ≡ output_for d mode out)
  unfolding write_for output_for
  write_done z size k r h = rw (same, z, k, zero-add (value_size d)) (refl, h)

module _ (version : ℕ) (d : Description) (mode n : ℕ) (out : List ℕ)
    (e : n ≡ refused_with (writing_tests (ltb 1 version) d mode (1 + value_size d) (length out))) where
  pub entity_refused : (n ≡ 0 → ⊥)
      → (record { number = n; length = 0 } ≡ write_entity_for version d mode out) × (out ≡ entity_output_for version d mode out)
  unfolding write_entity_for entity_output_for write_entity_tests
  entity_refused z = rw (← e, ne_eqb n 0 z) (refl, refl)

  pub entity_done : n ≡ 0 → (size : ℕ) → size ≡ 1 + value_size d → (r : List ℕ) → r ≡ written (set out 0 (6 * d.count + version)) 1 (value_of d)
      → (record { number = 0; length = size } ≡ write_entity_for version d mode out) × (r ≡ entity_output_for version d mode out)
  unfolding write_entity_for entity_output_for write_entity_tests entity_of bytes_of
  entity_done z size s r h =
      let w = writable (ltb 1 version) d mode (1 + value_size d) (length out) n e z in
      let v : version ≤ 1 = ltb-false 1 version w.2 in
      let x = 6 * d.count + version in
      let k : (3 * d.count * 2 + (version * 1 + 0)) / 1 % 256 ≡ 6 * d.count + version = rw div-one (omega arith) in
      rw (← e, z, k, s) (refl, h ∙ write_next out (set out 0 x) 0 (x ∷ []) (value_of d) 1 refl (omega arith) (set_written out 0 x (omega arith)))
