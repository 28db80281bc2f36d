-- What is written is read: joined items are cut into those items. Assumes nothing.
use Prim.Native.Nat.{ℕ, ◌+◌, ◌≤◌}
use mathlib.Core.Path.{◌≡◌, refl, sym, ap, ap₂, ◌∙◌}
use mathlib.Core.Bool.{Bool, true, false, true≢false}
use mathlib.Core.List.{List, [], ◌∷◌, ◌++◌, append_assoc, append-nil}
use native.Mathlib.Nat.{add-zero, zero-add}
use native.Mathlib.Omega.{arith}
use borrow.Author.Tests.{le-leb}
use lib.Dec.{eqb}
use lib.ListN.{length, take, drop, length-append}
use lib.Seq.{take_at, drop_at, drop-drop}
use Rattle.laws.specs.Pick.{pick}
use Rattle.laws.specs.Big.{bytes_of, big_of, number_at}
use Rattle.laws.proofs.Big.{big_back, bytes_length}
use Rattle.items.specs.Items.{Item, bits_at, size_of, item_at, no_item, item_then, cut_from, cut_of, same_name, none, some, find, All, Once}
use Rattle.items.proofs.Rule.{cut_item, cut_none, size_pos}
use Rattle.items.proofs.Names.{same_list, list_same}
use Rattle.items.specs.Joined.{item_bytes, wire_of, joined, put_at, placed, kept, Sound, Distinct, chunk, total, bare, keep}
use Rattle.items.specs.Exact.{NoItem}

pub item_length : (n : List ℕ) (b : ℕ) (v : List ℕ) → length n ≡ 4 → length (item_bytes n b v) ≡ 8 + length v
unfolding item_bytes
item_length n b v h = length-append n (bytes_of 4 b ++ v) ∙ omega (arith, h, length-append (bytes_of 4 b) v, bytes_length 4 b)

pub wire_length : (i : Item) → Sound i → length (wire_of i) ≡ 8 + length i.value
unfolding wire_of
wire_length i s = item_length i.name i.bits i.value s.four

-- ---- one item in front of a rest

module _ (i : Item) (s : Sound i) (r : List ℕ) where
  abbrev n : List ℕ
  n = i.name

  abbrev v : List ℕ
  v = i.value

  abbrev b : List ℕ
  b = bytes_of 4 i.bits

  abbrev all : List ℕ
  all = wire_of i ++ r

  spread : all ≡ n ++ (b ++ (v ++ r))
  unfolding wire_of item_bytes
  spread = append_assoc n (b ++ v) r ∙ ap (λ (l : List ℕ). n ++ l) (append_assoc b v r)

  past_name : drop 4 all ≡ b ++ (v ++ r)
  past_name = ap (drop 4) spread ∙ drop_at n _ 4 s.four

  long : 8 + length v ≤ length all
  long = omega (arith, length-append (wire_of i) r, wire_length i s)

  the_bits : bits_at all ≡ i.bits
  unfolding bits_at number_at
  the_bits =
      let l : 4 + 4 ≤ length all = omega (arith, long) in
      rw (le-leb (4 + 4) (length all) l)
      (ap big_of (ap (take 4) past_name ∙ take_at b (v ++ r) 4 (bytes_length 4 i.bits)) ∙ big_back 4 i.bits s.small)

  past_head : drop 8 all ≡ v ++ r
  past_head = sym (drop-drop 4 4 all) ∙ ap (drop 4) past_name ∙ drop_at b (v ++ r) 4 (bytes_length 4 i.bits)

  the_size : size_of all ≡ 8 + length v
  unfolding size_of
  the_size = rw (the_bits, ← s.whole) refl

  the_item : (at : ℕ) → item_at all at ≡ put_at at i
  unfolding item_at
  the_item at =
      rw (the_bits, past_head, ← s.whole, take_at v r (length v) refl, spread, take_at n (b ++ (v ++ r)) 4 s.four) refl

  the_rest : drop (8 + length v) all ≡ r
  the_rest = sym (drop-drop (length v) 8 all) ∙ ap (drop (length v)) past_head ∙ drop_at v r (length v) refl

  fits : size_of all ≤ length all
  fits = omega (arith, the_size, long)

  pub cut_one : (at : ℕ) → cut_from all at ≡ item_then (put_at at i) (cut_from r (at + (8 + length v)))
  cut_one at =
      cut_item all at fits
      ∙ ap₂ item_then (the_item at) (ap (λ (k : ℕ). cut_from (drop k all) (at + k)) the_size ∙ ap (λ (l : List ℕ). cut_from l (at + (8 + length v))) the_rest)

-- ---- THE THEOREM: joined items, with a rest behind them that begins no whole item, are cut into those items

ends : (i : Item) → Sound i → (l : List ℕ) (at : ℕ) → at + (8 + length i.value) + length l ≡ at + length (wire_of i ++ l)
ends i s l at = omega (arith, length-append (wire_of i) l, wire_length i s)

pub cut_joined : (is : List Item) (r : List ℕ) (at : ℕ) → All Sound is → NoItem r
    → cut_from (joined is ++ r) at ≡ record { items = placed at is; stop = at + length (joined is) }
unfolding joined placed no_item item_then
cut_joined [] r at s h = cut_none r at h ∙ rw add-zero refl
cut_joined (i ∷ is) r at s h =
    ap (λ (l : List ℕ). cut_from l at) (append_assoc (wire_of i) (joined is) r)
    ∙ cut_one i s.0 (joined is ++ r) at
    ∙ ap (item_then (put_at at i)) (cut_joined is r (at + (8 + length i.value)) s.1 h)
    ∙ ap (λ (k : ℕ). record { items = put_at at i ∷ placed (at + (8 + length i.value)) is; stop = k }) (ends i s.0 (joined is) at)

pub cut_whole : (is : List Item) (r : List ℕ) → All Sound is → NoItem r → cut_of (joined is ++ r) ≡ record { items = placed 0 is; stop = length (joined is) }
unfolding cut_of
cut_whole is r s h =
    cut_joined is r 0 s h ∙ ap (λ (k : ℕ). record { items = placed 0 is; stop = k }) (zero-add (length (joined is)))

-- joined items are a whole packet
pub cut_packet : (is : List Item) → All Sound is → cut_of (joined is) ≡ record { items = placed 0 is; stop = length (joined is) }
cut_packet is s =
    ap cut_of (sym (append-nil (joined is))) ∙ cut_whole is [] s (omega (arith, size_pos []))

-- ---- what is found in placed items does not depend on the places

pub find_placed : (n : List ℕ) (is : List Item) (at : ℕ) → bare (find n (placed at is)) ≡ bare (find n is)
unfolding find placed bare
find_placed n [] at = refl
find_placed n (i ∷ is) at = go (same_name n i.name) (find_placed n is (at + (8 + length i.value)))
  where
    go : (b : Bool) → bare (find n (placed (at + (8 + length i.value)) is)) ≡ bare (find n is)
        → bare (pick b (some (put_at at i)) (find n (placed (at + (8 + length i.value)) is))) ≡ bare (pick b (some i) (find n is))
    go true ih = refl
    go false ih = ih

-- ---- empty items are left out

not_some : (i : Item) → some i ≡ none → ⊥
not_some i e = let z : ◌≡◌ {A = ℕ} 0 1 = cc in omega arith

none_kept : (n : List ℕ) (is : List Item) → find n is ≡ none → find n (kept is) ≡ none
unfolding find kept
none_kept n [] e = refl
none_kept n (i ∷ is) e = go (same_name n i.name) (eqb i.bits 0) refl e (none_kept n is)
  where
    go : (b c : Bool) → same_name n i.name ≡ b → pick b (some i) (find n is) ≡ none → (find n is ≡ none → find n (kept is) ≡ none) → find n (pick c (kept is) (i ∷ kept is)) ≡ none
    go true c f e ih = absurd (not_some i e)
    go false true f e ih = ih e
    go false false f e ih = rw f (ih e)

pub find_kept : (n : List ℕ) (is : List Item) → Distinct is → find n (kept is) ≡ keep (find n is)
unfolding find kept keep
find_kept n [] d = refl
find_kept n (i ∷ is) d = go (same_name n i.name) (eqb i.bits 0) refl refl (find_kept n is d.1)
  where
    go : (b c : Bool) → same_name n i.name ≡ b → eqb i.bits 0 ≡ c → find n (kept is) ≡ keep (find n is)
        → find n (pick c (kept is) (i ∷ kept is)) ≡ keep (pick b (some i) (find n is))
    go true true f g ih = rw g (none_kept n is (rw (same_list n i.name f) d.0))
    go true false f g ih = rw (f, g) refl
    go false true f g ih = ih
    go false false f g ih = rw f ih

pub kept_all : (P : Item → Type 0) (is : List Item) → All P is → All P (kept is)
unfolding kept
kept_all P [] a = tt
kept_all P (i ∷ is) a = go (eqb i.bits 0) (kept_all P is a.1)
  where
    go : (b : Bool) → All P (kept is) → All P (pick b (kept is) (i ∷ kept is))
    go true ih = ih
    go false ih = (a.0, ih)

pub kept_distinct : (is : List Item) → Distinct is → Distinct (kept is)
unfolding kept
kept_distinct [] d = tt
kept_distinct (i ∷ is) d = go (eqb i.bits 0) (kept_distinct is d.1)
  where
    go : (b : Bool) → Distinct (kept is) → Distinct (pick b (kept is) (i ∷ kept is))
    go true ih = ih
    go false ih = (none_kept i.name is d.0, ih)

-- ---- no name stands twice

no_such : (n : List ℕ) (is : List Item) (at : ℕ) → find n is ≡ none → All (λ j. n ≡ j.name → ⊥) (placed at is)
unfolding find placed
no_such n [] at e = tt
no_such n (i ∷ is) at e = go (same_name n i.name) refl e (no_such n is (at + (8 + length i.value)))
  where
    go : (b : Bool) → same_name n i.name ≡ b → pick b (some i) (find n is) ≡ none
        → (find n is ≡ none → All (λ j. n ≡ j.name → ⊥) (placed (at + (8 + length i.value)) is)) → All (λ j. n ≡ j.name → ⊥) (placed at (i ∷ is))
    go true f e ih = absurd (not_some i e)
    go false f e ih = ((λ p. true≢false (sym (list_same n i.name p) ∙ f)), ih e)

pub once_placed : (is : List Item) (at : ℕ) → Distinct is → Once (placed at is)
unfolding placed
once_placed [] at d = tt
once_placed (i ∷ is) at d = (no_such i.name is (at + (8 + length i.value)) d.0, once_placed is (at + (8 + length i.value)) d.1)

-- the item of a name, in what is written without the empty items
pub find_written : (n : List ℕ) (is : List Item) → Distinct is → bare (find n (placed 0 (kept is))) ≡ bare (keep (find n is))
find_written n is d = find_placed n (kept is) 0 ∙ ap bare (find_kept n is d)

-- ---- lengths

pub kept_length : (is : List Item) → length (joined (kept is)) ≤ length (joined is)
unfolding kept joined
kept_length [] = omega arith
kept_length (i ∷ is) = go (eqb i.bits 0) (kept_length is)
  where
    go : (b : Bool) → length (joined (kept is)) ≤ length (joined is) → length (joined (pick b (kept is) (i ∷ kept is))) ≤ length (wire_of i ++ joined is)
    go true ih = omega (arith, length-append (wire_of i) (joined is))
    go false ih = omega (arith, length-append (wire_of i) (joined is), length-append (wire_of i) (joined (kept is)))

pub joined_length : (is : List Item) → All Sound is → length (joined is) ≡ total is
unfolding joined
joined_length [] s = refl
joined_length (i ∷ is) s = length-append (wire_of i) (joined is) ∙ ap₂ (λ (a b : ℕ). a + b) (wire_length i s.0) (joined_length is s.1)

-- chunk by chunk
pub joined_kept : (i : Item) (is : List Item) → joined (kept (i ∷ is)) ≡ chunk i.name i.bits i.value ++ joined (kept is)
unfolding joined kept chunk wire_of
joined_kept i is = go (eqb i.bits 0)
  where
    go : (b : Bool) → joined (pick b (kept is) (i ∷ kept is)) ≡ pick b [] (item_bytes i.name i.bits i.value) ++ joined (kept is)
    go true = refl
    go false = refl
