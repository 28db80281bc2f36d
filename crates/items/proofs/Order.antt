-- What is found does not depend on the order of the items, nor on an item of another name; one item may be changed for another of its
-- name. Assumes nothing.
use Prim.Native.Nat.{ℕ, ◌+◌}
use mathlib.Core.Path.{◌≡◌, refl, sym, ap, ◌∙◌, subst}
use mathlib.Core.Bool.{Bool, true, false}
use mathlib.Core.List.{List, [], ◌∷◌, ◌++◌}
use native.Mathlib.Omega.{arith}
use lib.ListN.{length}
use Rattle.laws.specs.Pick.{pick}
use Rattle.items.specs.Items.{Item, same_name, Found, some, find, All, Once}
use Rattle.items.specs.Joined.{placed, total}
use Rattle.items.specs.Order.{Reordered}
use Rattle.items.proofs.Names.{same_list}

-- ---- facts of each item

module _ (P : Item → Type 0) where
  pub all_join : (a b : List Item) → All P a → All P b → All P (a ++ b)
  all_join [] b p q = q
  all_join (i ∷ a) b p q = (p.0, all_join a b p.1 q)

  pub all_parts_law : (a b : List Item) → All P (a ++ b) → All P a × All P b
  all_parts_law [] b p = (tt, p)
  all_parts_law (i ∷ a) b p = let r = all_parts_law a b p.1 in ((p.0, r.0), r.1)

  -- an item put in, and taken out
  pub all_in : (a b : List Item) (i : Item) → P i → All P (a ++ b) → All P (a ++ (i ∷ b))
  all_in a b i p q = let r = all_parts_law a b q in all_join a (i ∷ b) r.0 (p, r.1)

  pub all_out : (a b : List Item) (i : Item) → All P (a ++ (i ∷ b)) → P i × All P (a ++ b)
  all_out a b i q = let r = all_parts_law a (i ∷ b) q in (r.1.0, all_join a b r.0 r.1.1)

-- ---- no name twice

abbrev pub Another : Item → Item → Type 0
Another i j = i.name ≡ j.name → ⊥

pub once_in : (a b : List Item) (i : Item) → All (Another i) (a ++ b) → Once (a ++ b) → Once (a ++ (i ∷ b))
once_in [] b i n o = (n, o)
once_in (j ∷ a) b i n o = (all_in (Another j) a b i (λ e. n.0 (sym e)) o.0, once_in a b i n.1 o.1)

pub once_out : (a b : List Item) (i : Item) → Once (a ++ (i ∷ b)) → Once (a ++ b)
once_out [] b i o = o.1
once_out (j ∷ a) b i o = ((all_out (Another j) a b i o.0).1, once_out a b i o.1)

-- the others have other names
pub once_others : (a b : List Item) (i : Item) → Once (a ++ (i ∷ b)) → All (Another i) (a ++ b)
once_others [] b i o = o.0
once_others (j ∷ a) b i o = ((λ e. (all_out (Another j) a b i o.0).0 (sym e)), once_others a b i o.1)

-- ---- the same items in another order

pub all_order : (P : Item → Type 0) (is js : List Item) → Reordered is js → All P is → All P js
all_order P [] js r a = subst (All P) (sym r) tt
all_order P (i ∷ is) js r a =
    subst (All P) (sym r.here) (all_in P r.before r.behind i a.0 (all_order P is (r.before ++ r.behind) r.others a.1))

pub once_order : (is js : List Item) → Reordered is js → Once is → Once js
once_order [] js r o = subst Once (sym r) tt
once_order (i ∷ is) js r o =
    let k = all_order (Another i) is (r.before ++ r.behind) r.others o.0 in
    subst Once (sym r.here) (once_in r.before r.behind i k (once_order is (r.before ++ r.behind) r.others o.1))

pub total_in : (a b : List Item) (i : Item) → total (a ++ (i ∷ b)) ≡ 8 + length i.value + total (a ++ b)
total_in [] b i = refl
total_in (j ∷ a) b i = let e = total_in a b i in omega arith

pub total_order : (is js : List Item) → Reordered is js → total js ≡ total is
total_order [] js r = ap total r
total_order (i ∷ is) js r =
    ap total r.here
    ∙ total_in r.before r.behind i
    ∙ ap (λ (k : ℕ). 8 + length i.value + k) (total_order is (r.before ++ r.behind) r.others)

-- ---- what is found

-- an item of another name does not count
pub find_skip : (n : List ℕ) (a b : List Item) (i : Item) → same_name n i.name ≡ false → find n (a ++ (i ∷ b)) ≡ find n (a ++ b)
unfolding find
find_skip n [] b i e = rw e refl
find_skip n (j ∷ a) b i e = ap (λ (f : Found). pick (same_name n j.name) (some j) f) (find_skip n a b i e)

-- an item may as well stand in front of those of other names
find_front : (n : List ℕ) (a b : List Item) (i : Item) → All (Another i) (a ++ b) → find n (a ++ (i ∷ b)) ≡ find n (i ∷ (a ++ b))
unfolding find
find_front n [] b i o = refl
find_front n (j ∷ a) b i o =
    ap (λ (f : Found). pick (same_name n j.name) (some j) f) (find_front n a b i o.1) ∙ go (same_name n j.name) (same_name n i.name) refl refl
  where
    go : (x y : Bool) → same_name n j.name ≡ x → same_name n i.name ≡ y
        → pick x (some j) (pick y (some i) (find n (a ++ b))) ≡ pick y (some i) (pick x (some j) (find n (a ++ b)))
    go true true e f = absurd (o.0 (sym (same_list n i.name f) ∙ same_list n j.name e))
    go true false e f = refl
    go false y e f = refl

pub find_order : (n : List ℕ) (is js : List Item) → Reordered is js → Once is → find n is ≡ find n js
unfolding find
find_order n [] js r o = ap (find n) (sym r)
find_order n (i ∷ is) js r o =
    let k = all_order (Another i) is (r.before ++ r.behind) r.others o.0 in
    ap (λ (f : Found). pick (same_name n i.name) (some i) f) (find_order n is (r.before ++ r.behind) r.others o.1)
    ∙ sym (find_front n r.before r.behind i k)
    ∙ ap (find n) (sym r.here)

-- ---- each at its place

names_placed : (n : List ℕ) (is : List Item) (at : ℕ) → All (λ j. n ≡ j.name → ⊥) is → All (λ j. n ≡ j.name → ⊥) (placed at is)
unfolding placed
names_placed n [] at a = tt
names_placed n (i ∷ is) at a = (a.0, names_placed n is (at + (8 + length i.value)) a.1)

pub once_at : (is : List Item) (at : ℕ) → Once is → Once (placed at is)
unfolding placed
once_at [] at o = tt
once_at (i ∷ is) at o = (names_placed i.name is (at + (8 + length i.value)) o.0, once_at is (at + (8 + length i.value)) o.1)
