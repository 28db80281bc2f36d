-- Values that stand in the rows of 01's table: what is found of them, and that 4 and 5 do not refuse them, by one induction each. Assumes
-- nothing.
use Prim.Native.Nat.{ℕ, zero, suc, ◌*◌, ◌≤◌, ◌<◌}
use mathlib.Core.Path.{◌≡◌, refl, sym, ap₂, ◌∙◌}
use mathlib.Core.Bool.{Bool, true, false, ◌&&◌, ◌||◌, not, true≢false}
use mathlib.Core.List.{List, [], ◌∷◌}
use native.Mathlib.Omega.{arith}
use borrow.Author.Tests.{eqb-true, not-true}
use lib.Dec.{eqb}
use lib.ListN.{length, get_or}
use Rattle.laws.proofs.Flags.{both, or_false}
use Rattle.items.specs.Items.{Item, none, some, same_name, find, among, All}
use Rattle.items.specs.Joined.{Sound, Distinct, keep}
use Rattle.items.proofs.Names.{same_list, list_same}
use Rattle.mdi_spots.specs.Table.{Row, row, any_row, names_of, absent, wrong}
use Rattle.mdi_write.specs.Packet.{entry, entries}
use Rattle.mdi_write.proofs.Values.{fours}
use Rattle.mdi_laws.proofs.Stood.{Stood, there_stood, size_stood}
use Rattle.mdi_laws.proofs.Values.{sound}

-- ---- a value that may stand in a row

pub record Suits (r : Row) (v : List ℕ) : Type 0 where
  pub short : length v ≤ 65528
  pub allowed : (length v ≡ 0 → ⊥) → r.allowed (8 * length v) ≡ true
  pub required : r.required ≡ true → length v ≡ 0 → ⊥

-- rows behind the last value are left empty
abbrev pub AllSuit : List Row → List (List ℕ) → Type 0
AllSuit [] vs = Unit {0}
AllSuit (r ∷ rs) [] = (r.required ≡ false) × AllSuit rs []
AllSuit (r ∷ rs) (v ∷ vs) = Suits r v × AllSuit rs vs

module _ (n : List ℕ) (ok : ℕ → Bool) (v : List ℕ) (h : length v ≤ 65528) where
  pub must : (length v ≡ 0 → ⊥) → ok (8 * length v) ≡ true → Suits (row n true ok) v
  must z e = record { short = h; allowed = λ y. e; required = λ q. z }

  pub may : ((length v ≡ 0 → ⊥) → ok (8 * length v) ≡ true) → Suits (row n false ok) v
  may e = record { short = h; allowed = e; required = λ q. absurd (true≢false (sym q)) }

pub sound_rows : (rs : List Row) (vs : List (List ℕ)) → fours (names_of rs) ≡ true → AllSuit rs vs → All Sound (entries (names_of rs) vs)
sound_rows [] [] e f = tt
sound_rows [] (v ∷ vs) e f = tt
sound_rows (r ∷ rs) [] e f = tt
sound_rows (r ∷ rs) (v ∷ vs) e f =
    let b = both (eqb (length r.name) 4) (fours (names_of rs)) e in
    (sound r.name v (eqb-true _ _ b.0) f.0.short, sound_rows rs vs b.1 f.1)

-- ---- no name stands in two rows: a computed test

abbrev apart : List (List ℕ) → Bool
apart [] = true
apart (n ∷ ns) = not (among n ns) && apart ns

other : (n : List ℕ) (ns : List (List ℕ)) → among n ns ≡ false → (k : ℕ) → k < length ns → same_name n (get_or ns k []) ≡ false
unfolding among
other n [] e k h = absurd (omega arith)
other n (m ∷ ns) e zero h = (or_false (same_name n m) (among n ns) e).0
other n (m ∷ ns) e (suc k) h = other n ns (or_false (same_name n m) (among n ns) e).1 k (omega arith)

turned : (n m : List ℕ) → same_name n m ≡ false → same_name m n ≡ false
turned n m e = go (same_name m n) refl
  where
    go : (b : Bool) → same_name m n ≡ b → b ≡ false
    go true q = sym (list_same n m (sym (same_list m n q))) ∙ e
    go false q = refl

nowhere : (n : List ℕ) (ns vs : List (List ℕ)) → among n ns ≡ false → find n (entries ns vs) ≡ none
unfolding among find
nowhere n ns [] e = refl
nowhere n [] (v ∷ vs) e = refl
nowhere n (m ∷ ns) (v ∷ vs) e = let o = or_false (same_name n m) (among n ns) e in rw o.0 (nowhere n ns vs o.1)

pub distinct_rows : (ns vs : List (List ℕ)) → apart ns ≡ true → Distinct (entries ns vs)
distinct_rows ns [] e = tt
distinct_rows [] (v ∷ vs) e = tt
distinct_rows (n ∷ ns) (v ∷ vs) e =
    let b = both (not (among n ns)) (apart ns) e in
    (nowhere n ns vs (not-true _ b.0), distinct_rows ns vs b.1)

-- what is found of a row, but for an empty value
pub find_row : (ns vs : List (List ℕ)) → apart ns ≡ true → (k : ℕ) → k < length ns
    → keep (find (get_or ns k []) (entries ns vs)) ≡ keep (some (entry (get_or ns k []) (get_or vs k [])))
unfolding find keep
find_row ns [] e k h = refl
find_row [] (v ∷ vs) e k h = absurd (omega arith)
find_row (n ∷ ns) (v ∷ vs) e zero h = rw (list_same n n refl) refl
find_row (n ∷ ns) (v ∷ vs) e (suc k) h =
    let b = both (not (among n ns)) (apart ns) e in
    rw (turned n (get_or ns k []) (other n ns (not-true _ b.0) k (omega arith))) (find_row ns vs b.1 k (omega arith))

-- ---- 4 and 5 of a packet in whose rows such values stand

module _ (is : List Item) where
  abbrev Standing : List Row → List (List ℕ) → Type 0
  Standing rs vs = (k : ℕ) → k < length rs → Stood (find (get_or (names_of rs) k []) is) (get_or vs k [])

  there : (r : Row) (v : List ℕ) → Suits r v → Stood (find r.name is) v → (b : Bool) → r.required ≡ b → (b && absent (find r.name is)) ≡ false
  there r v s f true e = there_stood (find r.name is) v f (s.required e)
  there r v s f false e = refl

  pub missing_rows : (rs : List Row) (vs : List (List ℕ)) → Standing rs vs → AllSuit rs vs → any_row (λ r. r.required && absent (find r.name is)) rs ≡ false
  missing_rows [] vs s f = refl
  missing_rows (r ∷ rs) [] s f = rw f.0 (missing_rows rs [] (λ k h. s (suc k) (omega arith)) f.1)
  missing_rows (r ∷ rs) (v ∷ vs) s f =
      ap₂ (λ (a b : Bool). a || b) (there r v f.0 (s 0 (omega arith)) r.required refl) (missing_rows rs vs (λ k h. s (suc k) (omega arith)) f.1)

  pub length_rows : (rs : List Row) (vs : List (List ℕ)) → Standing rs vs → AllSuit rs vs → any_row (λ r. wrong r.allowed (find r.name is)) rs ≡ false
  length_rows [] vs s f = refl
  length_rows (r ∷ rs) [] s f =
      ap₂ (λ (a b : Bool). a || b) (size_stood (find r.name is) [] r.allowed (s 0 (omega arith)) (λ z. absurd (z refl))) (length_rows rs [] (λ k h. s (suc k) (omega arith)) f.1)
  length_rows (r ∷ rs) (v ∷ vs) s f =
      ap₂ (λ (a b : Bool). a || b) (size_stood (find r.name is) v r.allowed (s 0 (omega arith)) f.0.allowed) (length_rows rs vs (λ k h. s (suc k) (omega arith)) f.1)
