-- Where the items of a packet stand in it, and that a spot shows its item's value. Assumes nothing.
use mathlib.Core.Path.{◌≡◌, refl, sym, ap, ◌∙◌, subst}
use mathlib.Core.Bool.{Bool, true, false}
use mathlib.Core.List.{List, [], ◌∷◌}
use Prim.Native.Nat.{ℕ, zero, suc, ◌+◌, ◌≤◌}
use native.Mathlib.Omega.{arith}
use borrow.Author.Tests.{le-leb, leb-true}
use lib.Dec.{leb}
use lib.ListN.{length, take, drop, length-drop}
use lib.Seq.{drop-drop, length-take-le}
use Rattle.laws.specs.Pick.{pick}
use Rattle.items.specs.Items.{Item, Cut, bytes_for, bits_at, size_of, item_at, no_item, item_then, cut_after, cut_from, cut_of, same_name}
use Rattle.items.specs.Items.{Found, none, some, find, spot_of, value_of, shown_at, All}

-- an item stands in the packet at its place
pub record Stands (S : List ℕ) (i : Item) : Type 0 where
  pub fits : i.place + 8 + bytes_for i.bits ≤ length S
  pub four : length i.name ≡ 4
  pub called : i.name ≡ take 4 (drop i.place S)
  pub shown : i.value ≡ take (bytes_for i.bits) (drop (i.place + 8) S)

-- the item at the front of the rest from an offset on
here_stands : (S : List ℕ) (at : ℕ) → size_of (drop at S) ≤ length (drop at S) → Stands S (item_at (drop at S) at)
unfolding size_of item_at
here_stands S at h =
    let l = length-drop at S in
    record {
      fits = omega arith;
      four = length-take-le 4 (drop at S) (omega arith);
      called = refl;
      shown = ap (take (bytes_for (bits_at (drop at S)))) (drop-drop 8 at S);
    }

pub first_all : (P : Item → Type 0) (n : List ℕ) (l : List Item) → All P l → (i : Item) → find n l ≡ some i → P i × (same_name n i.name ≡ true)
unfolding find
first_all P n [] a i e = let z : ◌≡◌ {A = ℕ} 0 1 = cc in absurd (omega arith)
first_all P n (j ∷ l) a i e = go (same_name n j.name) refl e (first_all P n l a.1 i)
  where
    go : (b : Bool) → same_name n j.name ≡ b → pick b (some j) (find n l) ≡ some i → (find n l ≡ some i → P i × (same_name n i.name ≡ true)) → P i × (same_name n i.name ≡ true)
    go true f e ih = let z : j ≡ i = cc in (subst P z a.0, ap (λ (k : Item). same_name n k.name) (sym z) ∙ f)
    go false f e ih = ih e

all_stand : (k : ℕ) (s S : List ℕ) (at : ℕ) → s ≡ drop at S → All (Stands S) (cut_after k s at).items
unfolding cut_after no_item item_then
all_stand k [] S at e = tt
all_stand (suc k) (x ∷ s) S at e = all_stand k s S (at + 1) (ap (drop 1) e ∙ drop-drop 1 at S)
all_stand zero (x ∷ s) S at e =
    go (leb (size_of (x ∷ s)) (length (x ∷ s))) refl (all_stand (7 + bytes_for (bits_at (x ∷ s))) s S (at + 1) (ap (drop 1) e ∙ drop-drop 1 at S))
  where
    rest : Cut
    rest = cut_after (7 + bytes_for (bits_at (x ∷ s))) s (at + 1)

    go : (b : Bool) → leb (size_of (x ∷ s)) (length (x ∷ s)) ≡ b → All (Stands S) rest.items
        → All (Stands S) (pick b (item_then (item_at (x ∷ s) at) rest) (no_item at)).items
    go true f ih = (subst (λ (t : List ℕ). Stands S (item_at t at)) (sym e) (here_stands S at (subst (λ (t : List ℕ). size_of t ≤ length t) e (leb-true _ _ f))), ih)
    go false f ih = tt

pub stand : (S : List ℕ) → All (Stands S) (cut_of S).items
unfolding cut_of cut_from
stand S = all_stand 0 S S 0 refl

pub find_stands : (S n : List ℕ) (i : Item) → find n (cut_of S).items ≡ some i → Stands S i × (same_name n i.name ≡ true)
find_stands S n i e = first_all (Stands S) n (cut_of S).items (stand S) i e

-- what the spot of an item of the packet shows is the item's value
pub value_is : (S n : List ℕ) → shown_at S (spot_of (find n (cut_of S).items)) ≡ value_of (find n (cut_of S).items)
unfolding shown_at spot_of value_of
value_is S n = go (find n (cut_of S).items) refl
  where
    go : (f : Found) → find n (cut_of S).items ≡ f → shown_at S (spot_of f) ≡ value_of f
    go none e = rw (le-leb 0 (length S) (omega arith)) refl
    go (some i) e =
        let t = (find_stands S n i e).0 in
        let l : i.place + 8 + bytes_for i.bits ≤ length S = t.fits in
        rw (le-leb _ _ l) (sym t.shown)

-- a value has the bytes that its bits take
pub value_length_law : (S n : List ℕ) (i : Item) → find n (cut_of S).items ≡ some i → length i.value ≡ bytes_for i.bits
value_length_law S n i e =
    let t = (find_stands S n i e).0 in
    let f = t.fits in
    let l = length-drop (i.place + 8) S in
    ap length t.shown ∙ length-take-le (bytes_for i.bits) (drop (i.place + 8) S) (omega arith)
