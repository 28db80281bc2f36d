-- What was written is read as it was, and what was read is written as it was: `read` and `write`, `read_entity` and `write_entity`.
-- Assumes nothing.
use mathlib.Core.Path.{◌≡◌, refl, sym, ap, ap₂, ◌∙◌}
use mathlib.Core.Bool.{Bool, true, false, not, ◌||◌}
use mathlib.Core.List.{List, [], ◌∷◌, ◌++◌}
use mathlib.Core.Logic.{⊎_elim}
use Prim.Native.Nat.{ℕ, zero, suc, ◌+◌, ◌*◌, ◌/◌, ◌%◌, ◌≤◌, ◌<◌}
use native.Mathlib.Omega.{arith}
use borrow.Author.Tests.{le-ltb, ltb-false, eqb-true, not-false, eq-eqb}
use lib.Dec.{eqb, ltb, leb, lit<, lit≤}
use lib.ListN.{length, get_or, take, drop, length-drop}
use Rattle.laws.proofs.Big.{bytes_take}
use Rattle.laws.proofs.Flags.{either}
use Rattle.laws.specs.Big.{bytes_of, big_of, Bytes}
use Rattle.laws.specs.Limits.{longest}
use Rattle.laws.specs.Pick.{pick}
use Rattle.laws.specs.Refuse.{refused_with, Free}
use Rattle.laws.specs.Written.{written}
use Rattle.laws.proofs.Written.{front}
use Rattle.laws.proofs.Refuse.{free}
use Rattle.description.specs.declared.Description.{Description}
use Rattle.description.specs.Bytes.{laid, fields_in, head_bits, no_stream, value_of, entity_of, lengths_of, slot_at, described_by}
use Rattle.description.specs.WellFormed.{over, is_too_large, ill_formed, WellFormed}
use Rattle.description.specs.Answers.{value_length, unserved, reading_tests, read_tests, read_for, length_in, version_in, type_in, wrong_head, read_entity_tests, read_entity_for, handed, value_size, writing_tests, write_tests, write_for, output_for, write_entity_tests, write_entity_for, entity_output_for}
use Rattle.description.proofs.Writing.{neither}
use Rattle.description.proofs.Meaning.{well}
use Rattle.description.proofs.Back.{laid_back, laid_forth, described_back, level_fields, value_length_law, value_forth}

-- what a writer's answer 0 says of the description and the mode
pub record Sound (large : Bool) (d : Description) (mode size room : ℕ) : Type 0 where
  pub more : large ≡ false
  pub bits : is_too_large d ≡ false
  pub mode_bits : ltb 3 mode ≡ false
  pub served : unserved mode ≡ false
  pub well_formed : ill_formed mode d ≡ false
  pub fits : size ≤ room

sound : (large : Bool) (d : Description) (mode size room : ℕ) → refused_with (writing_tests large d mode size room) ≡ 0 → Sound large d mode size room
unfolding writing_tests handed
sound large d mode size room e =
    let f = free (writing_tests large d mode size room) (lit< tt, (lit< tt, (lit< tt, (lit< tt, tt)))) e in
    let p = neither (large || is_too_large d) (ltb 3 mode) f.0 in
    let q = neither large (is_too_large d) p.0 in
    record {
      more = q.0;
      bits = q.1;
      mode_bits = p.1;
      served = f.1.0;
      well_formed = f.1.1.0;
      fits = ltb-false room size f.1.1.1.0;
    }

-- the lengths of the table
right_length : (n : ℕ) → 1 ≤ n → n ≤ 4 → value_length (1 + 3 * n) ≡ true
right_length zero h k = absurd (omega arith)
right_length (suc zero) h k = refl
right_length (suc (suc zero)) h k = refl
right_length (suc (suc (suc zero))) h k = refl
right_length (suc (suc (suc (suc zero)))) h k = refl
right_length (suc (suc (suc (suc (suc n))))) h k = absurd (omega arith)

-- a value written is read as the description, under the same mode
module _ (large : Bool) (d : Description) (mode size room : ℕ) (four : length d.stream ≡ 4) (e : refused_with (writing_tests large d mode size room) ≡ 0) where
  back : described_by (value_of d) ≡ d
  back =
      let s = sound large d mode size room e in
      let w = well mode d four s.well_formed in
      described_back d four w.most s.bits w.behind

  accepts : refused_with (reading_tests false false (value_of d) mode) ≡ 0
  unfolding reading_tests
  accepts =
      let s = sound large d mode size room e in
      let w = well mode d four s.well_formed in
      let n : length (value_of d) ≡ 1 + 3 * d.count = value_length_law d four w.most s.bits w.behind in
      rw (n, right_length d.count w.one w.most, s.mode_bits, s.served, back, s.well_formed)

-- read of write
pub read_write : (d : Description) (mode : ℕ) (out : List ℕ) → length d.stream ≡ 4 → (write_for d mode out).number ≡ 0
    → read_for (take (write_for d mode out).length (output_for d mode out)) mode ≡ record { number = 0; description = d }
unfolding write_for output_for write_tests read_for read_tests
read_write d mode out four e =
    let s = sound false d mode (value_size d) (length out) e in
    let w = well mode d four s.well_formed in
    let m = w.most in
    let n : length (value_of d) ≡ 1 + 3 * d.count = value_length_law d four m s.bits w.behind in
    let l : ltb longest (length (value_of d)) ≡ false = le-ltb longest (length (value_of d)) (omega arith) in
    rw (e, front out (value_of d) (1 + 3 * d.count) n, l, accepts false d mode (value_size d) (length out) four e, back false d mode (value_size d) (length out) four e)

-- a length of the table has three bytes a stream behind one byte
shape : (m : ℕ) → value_length m ≡ true → (m ≡ 1 + 3 * (m / 3)) × (m / 3 ≤ 4)
shape m e =
    ⊎_elim
    (λ f. ⊎_elim
    (λ g. ⊎_elim (λ h. at 4 (eqb-true m 4 h) refl (lit≤ tt)) (λ h. at 7 (eqb-true m 7 h) refl (lit≤ tt)) (either (eqb m 4) (eqb m 7) g))
    (λ g. at 10 (eqb-true m 10 g) refl (lit≤ tt)) (either (eqb m 4 || eqb m 7) (eqb m 10) f))
    (λ f. at 13 (eqb-true m 13 f) refl (lit≤ tt)) (either (eqb m 4 || eqb m 7 || eqb m 10) (eqb m 13) e)
  where
    at : (k : ℕ) → m ≡ k → k ≡ 1 + 3 * (k / 3) → k / 3 ≤ 4 → (m ≡ 1 + 3 * (m / 3)) × (m / 3 ≤ 4)
    at k p q r = rw p (q, r)

-- the fields that are read have room in their bits
slot_fits : (v : List ℕ) (at : ℕ) → over (slot_at v at) ≡ false
unfolding slot_at lengths_of
slot_fits v at = go (leb (at + 3) (length v))
  where
    go : (b : Bool) → over (pick b (lengths_of (take 3 (drop at v))) no_stream) ≡ false
    go true =
        let x = big_of (take 3 (drop at v)) in
        rw (le-ltb 4095 (x / 4096 % 4096) (omega arith), le-ltb 4095 (x / 1 % 4096) (omega arith))
    go false = refl

pub small : (v : List ℕ) → is_too_large (described_by v) ≡ false
unfolding is_too_large described_by
small v =
    let x = big_of (take 1 v) in
    rw (le-ltb 3 (x / 4 % 4) (omega arith), le-ltb 3 (x / 1 % 4) (omega arith), slot_fits v 1, slot_fits v 4, slot_fits v 7, slot_fits v 10)

module _ (long head : Bool) (v : List ℕ) (mode : ℕ) (e : refused_with (reading_tests long head v mode) ≡ 0) where
  taken : Free (reading_tests long head v mode)
  unfolding reading_tests
  taken = free (reading_tests long head v mode) (lit< tt, (lit< tt, (lit< tt, (lit< tt, (lit< tt, tt))))) e

  rightly : (length v ≡ 1 + 3 * (length v / 3)) × (length v / 3 ≤ 4)
  unfolding reading_tests
  rightly = shape (length v) (not-false (value_length (length v)) taken.1.0)

  -- the description may be written under the same mode where there is room
  writable : (size room : ℕ) → size ≤ room → refused_with (writing_tests false (described_by v) mode size room) ≡ 0
  unfolding reading_tests writing_tests handed
  writable size room h =
      let p = neither head (ill_formed mode (described_by v)) taken.1.1.1.1.0 in
      rw (small v, taken.1.1.0, taken.1.1.1.0, p.1, le-ltb room size h)

  full : 1 + 3 * (described_by v).count ≡ length v
  unfolding described_by
  full = sym rightly.0

  again : Bytes v → value_of (described_by v) ≡ get_or v 0 0 % 16 ∷ drop 1 v
  again b = value_forth v (length v / 3) b rightly.0 rightly.1

-- write of read: the value again, its reserved bits 0
pub write_read : (v : List ℕ) (mode : ℕ) (out : List ℕ) → Bytes v → (read_for v mode).number ≡ 0 → length v ≤ length out
    → (write_for (read_for v mode).description mode out ≡ record { number = 0; length = length v })
    × (output_for (read_for v mode).description mode out ≡ written out 0 (get_or v 0 0 % 16 ∷ drop 1 v))
unfolding write_for output_for write_tests read_for read_tests
write_read v mode out b e h =
    let l = ltb longest (length v) in
    let n = full l false v mode e in
    let z : refused_with (writing_tests false (described_by v) mode (value_size (described_by v)) (length out)) ≡ 0 =
    writable l false v mode e (value_size (described_by v)) (length out) (omega arith) in
    rw (e, z) (ap (λ (k : ℕ). record { number = 0; length = k }) n, ap (written out 0) (again l false v mode e b))

-- an entity
module _ (version : ℕ) (d : Description) (small : version ≤ 1) (most : d.count ≤ 4) where
  head_back : fields_in head_bits (take 1 (entity_of version d)) ≡ 3 * d.count ∷ version ∷ []
  unfolding entity_of bytes_of
  head_back = laid_back head_bits (3 * d.count ∷ version ∷ []) 1 refl (omega arith, (omega arith, tt))

  rest_back : drop 1 (entity_of version d) ≡ value_of d
  unfolding entity_of bytes_of
  rest_back = refl

module _ (version : ℕ) (d : Description) (mode size room : ℕ) (four : length d.stream ≡ 4)
    (e : refused_with (writing_tests (ltb 1 version) d mode size room) ≡ 0) where
  low : version ≤ 1
  low = ltb-false 1 version (sound (ltb 1 version) d mode size room e).more

  formed : WellFormed mode d
  formed = well mode d four (sound (ltb 1 version) d mode size room e).well_formed

  value_size_law : length (value_of d) ≡ 1 + 3 * d.count
  value_size_law = value_length_law d four formed.most (sound (ltb 1 version) d mode size room e).bits formed.behind

  right_head : wrong_head (entity_of version d) ≡ false
  unfolding wrong_head
  right_head =
      let s = sound (ltb 1 version) d mode size room e in
      let n : length (value_of d) / 3 ≡ d.count = let v = value_size_law in omega arith in
      let p : length_in (entity_of version d) ≡ 3 * d.count = ap (λ (fs : List ℕ). get_or fs 0 0) (head_back version d low formed.most) in
      let t : type_in (value_of d) ≡ 0 =
      ap (λ (fs : List ℕ). get_or fs 0 0) (level_fields d four formed.most s.bits formed.behind) in
      rw (rest_back version d low formed.most, p, t, n, eq-eqb (3 * d.count) (3 * d.count) refl)

  entity_accepts : refused_with (reading_tests false (wrong_head (entity_of version d)) (drop 1 (entity_of version d)) mode) ≡ 0
  entity_accepts = rw (right_head, rest_back version d low formed.most) (accepts (ltb 1 version) d mode size room four e)

  entity_size : length (entity_of version d) ≡ 1 + (1 + 3 * d.count)
  unfolding entity_of bytes_of
  entity_size = let v = value_size_law in omega arith

-- read of write: the version is kept
pub read_write_entity : (version : ℕ) (d : Description) (mode : ℕ) (out : List ℕ) → length d.stream ≡ 4 → (write_entity_for version d mode out).number ≡ 0
    → read_entity_for (take (write_entity_for version d mode out).length (entity_output_for version d mode out)) mode
    ≡ record { number = 0; version = version; description = d }
unfolding write_entity_for entity_output_for write_entity_tests read_entity_for read_entity_tests
read_write_entity version d mode out four e =
    let size = 1 + value_size d in
    let s = entity_of version d in
    let w = formed version d mode size (length out) four e in
    let m = w.most in
    let h = low version d mode size (length out) four e in
    let n : length s ≡ 1 + (1 + 3 * d.count) = entity_size version d mode size (length out) four e in
    let l : ltb longest (length s) ≡ false = le-ltb longest (length s) (omega arith) in
    let v : version_in s ≡ version = ap (λ (fs : List ℕ). get_or fs 1 0) (head_back version d h m) in
    rw (
      e,
      front out s (1 + (1 + 3 * d.count)) n,
      l,
      entity_accepts version d mode size (length out) four e,
      v,
      rest_back version d h m,
      back (ltb 1 version) d mode size (length out) four e,
    )

low_bits : (y : ℕ) → y < 256 → type_in (y ∷ []) ≡ 0 → y % 16 ≡ y
unfolding big_of
low_bits y h e = omega arith

head_right : (s : List ℕ) (mode : ℕ) → refused_with (read_entity_tests s mode) ≡ 0 → wrong_head s ≡ false
unfolding read_entity_tests reading_tests
head_right s mode e =
    (neither (wrong_head s) (ill_formed mode (described_by (drop 1 s)))
    (taken (ltb longest (length s)) (wrong_head s) (drop 1 s) mode e).1.1.1.1.0).0

joined : (x y : ℕ) (u : List ℕ) → Bytes (x ∷ y ∷ u) → wrong_head (x ∷ y ∷ u) ≡ false → value_of (described_by (y ∷ u)) ≡ y % 16 ∷ u
    → entity_of (version_in (x ∷ y ∷ u)) (described_by (y ∷ u)) ≡ x ∷ y ∷ u
unfolding wrong_head entity_of bytes_of described_by
joined x y u b e f =
    let s = x ∷ y ∷ u in
    let p = neither (not (eqb (length_in s) (3 * (length (y ∷ u) / 3)))) (not (eqb (type_in (y ∷ u)) 0)) e in
    let n : length_in s ≡ 3 * (length (y ∷ u) / 3) = eqb-true (length_in s) (3 * (length (y ∷ u) / 3)) (not-false (eqb (length_in s) (3 * (length (y ∷ u) / 3))) p.0) in
    let t : type_in (y ∷ u) ≡ 0 = eqb-true (type_in (y ∷ u)) 0 (not-false (eqb (type_in (y ∷ u)) 0) p.1) in
    let h : laid head_bits (length_in s ∷ version_in s ∷ []) ≡ x ∷ [] = laid_forth head_bits (x ∷ []) refl (bytes_take 1 s b) in
    ap₂ (λ (k : ℕ) (r : List ℕ). laid head_bits (k ∷ version_in s ∷ []) ++ r) (sym n) (f ∙ ap (λ (k : ℕ). k ∷ u) (low_bits y (b 1) t))
    ∙ ap (λ (r : List ℕ). r ++ (y ∷ u)) h

-- the head of an entity that is taken, and what follows it, are written as they were
entity_again : (s : List ℕ) (mode : ℕ) → Bytes s → refused_with (read_entity_tests s mode) ≡ 0 → entity_of (version_in s) (described_by (drop 1 s)) ≡ s
unfolding read_entity_tests
entity_again [] mode b e =
    let r = (rightly (ltb longest 0) (wrong_head []) [] mode e).0 in
    absurd (omega arith)
entity_again (x ∷ []) mode b e =
    let r = (rightly (ltb longest 1) (wrong_head (x ∷ [])) [] mode e).0 in
    absurd (omega arith)
entity_again (x ∷ y ∷ u) mode b e = joined x y u b (head_right (x ∷ y ∷ u) mode e) (again l w (y ∷ u) mode e (λ i. b (suc i)))
  where
    l : Bool
    l = ltb longest (length (x ∷ y ∷ u))

    w : Bool
    w = wrong_head (x ∷ y ∷ u)

-- write of read: the entity again
pub write_read_entity : (s : List ℕ) (mode : ℕ) (out : List ℕ) → Bytes s → (read_entity_for s mode).number ≡ 0 → length s ≤ length out
    → (write_entity_for (read_entity_for s mode).version (read_entity_for s mode).description mode out ≡ record { number = 0; length = length s })
    × (entity_output_for (read_entity_for s mode).version (read_entity_for s mode).description mode out ≡ written out 0 s)
unfolding write_entity_for entity_output_for write_entity_tests read_entity_for read_entity_tests
write_read_entity s mode out b e h =
    let v = drop 1 s in
    let l = ltb longest (length s) in
    let n : 1 + 3 * (described_by v).count ≡ length v = full l (wrong_head s) v mode e in
    let k = length-drop 1 s in
    let m : 1 + (1 + 3 * (described_by v).count) ≡ length s = omega arith in
    let x : ltb 1 (version_in s) ≡ false = le-ltb 1 (version_in s) (omega arith) in
    let z : refused_with (writing_tests false (described_by v) mode (1 + value_size (described_by v)) (length out)) ≡ 0 =
    writable l (wrong_head s) v mode e (1 + value_size (described_by v)) (length out) (omega arith) in
    rw (e, x, z) (ap (λ (k : ℕ). record { number = 0; length = k }) m, ap (written out 0) (entity_again s mode b e))
