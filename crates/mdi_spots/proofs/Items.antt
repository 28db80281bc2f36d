-- The tests on spots are the conditions on items, by one induction over the rows. Assumes nothing.
use Prim.Native.Nat.{ℕ, zero, suc, ◌+◌, ◌<◌}
use mathlib.Core.Path.{◌≡◌, refl, sym, ap, ap₂, ◌∙◌}
use mathlib.Core.Bool.{Bool, ◌&&◌, ◌||◌, not}
use mathlib.Core.List.{List, [], ◌∷◌, map}
use native.Mathlib.Omega.{arith}
use borrow.Author.Tests.{ne_eqb}
use lib.ListN.{length, get_or}
use Rattle.items.specs.Items.{Item, Found, none, some, cut_of, find, spot_of, value_of, shown_at, bytes_for}
use Rattle.items.proofs.Stands.{value_is, value_length_law}
use Rattle.items.specs.declared.Spot.{Spot}
use Rattle.mdi_spots.specs.Table.{Row, table, any_row, names_of, name_of, absent, wrong, ill, missing, bad_length}
use Rattle.mdi_spots.specs.Spotted.{spots_of, spot_in, away, wrong_at, any_at, absent_at, bad_length_at}
use Rattle.mdi_spots.specs.declared.Spots.{Spots}

pub away_is : (f : Found) → away (spot_of f) ≡ absent f
unfolding spot_of absent
away_is none = refl
away_is (some i) = ne_eqb (i.place + 8) 0 (λ z. omega arith)

pub wrong_is : (ok : ℕ → Bool) (f : Found) → wrong_at ok (spot_of f) ≡ wrong ok f
unfolding spot_of wrong wrong_at
wrong_is ok none = refl
wrong_is ok (some i) = rw (ne_eqb (i.place + 8) 0 (λ z. omega arith)) refl

ill_of : (ok : List ℕ → Bool) (f : Found) (v : List ℕ) → v ≡ value_of f → (not (away (spot_of f)) && not (ok v)) ≡ ill ok f
unfolding spot_of ill value_of
ill_of ok none v e = refl
ill_of ok (some i) v e = rw (ne_eqb (i.place + 8) 0 (λ z. omega arith), e) refl

-- a test on the value that the item's spot shows
pub ill_is : (ok : List ℕ → Bool) (S n : List ℕ) → (not (away (spot_of (find n (cut_of S).items))) && not (ok (shown_at S (spot_of (find n (cut_of S).items))))) ≡ ill ok (find n (cut_of S).items)
ill_is ok S n = ill_of ok (find n (cut_of S).items) (shown_at S (spot_of (find n (cut_of S).items))) (value_is S n)

-- and the bytes of an item, counted by its bits
pub size_is : (S n : List ℕ) → bytes_for (spot_of (find n (cut_of S).items)).bits ≡ length (value_of (find n (cut_of S).items))
unfolding spot_of value_of
size_is S n = go (find n (cut_of S).items) refl
  where
    go : (f : Found) → find n (cut_of S).items ≡ f → bytes_for (spot_of f).bits ≡ length (value_of f)
    go none e = refl
    go (some i) e = sym (value_length_law S n i e)

-- ---- the rows of a packet's spots

at_name : (f : List ℕ → ℕ) (ns : List (List ℕ)) (k : ℕ) → k < length ns → get_or (map f ns) k 0 ≡ f (get_or ns k [])
at_name f [] k h = absurd (omega arith)
at_name f (n ∷ ns) zero h = refl
at_name f (n ∷ ns) (suc k) h = at_name f ns k (omega arith)

whole_spot : (f : Found) → ◌≡◌ {A = Spot} (record { start = (spot_of f).start; bits = (spot_of f).bits }) (spot_of f)
unfolding spot_of
whole_spot none = refl
whole_spot (some i) = refl

row_spot : (is : List Item) (k : ℕ) → k < length table → spot_in (spots_of is) k ≡ spot_of (find (name_of k) is)
unfolding spots_of
row_spot is k h =
    ap₂ (λ (a b : ℕ). record { start = a; bits = b })
    (at_name (λ n. (spot_of (find n is)).start) (names_of table) k h)
    (at_name (λ n. (spot_of (find n is)).bits) (names_of table) k h)
    ∙ whole_spot (find (name_of k) is)

-- what `spot` gives of them
pub spot_of_law : (is : List Item) (t : Spots) → t ≡ spots_of is → (k : ℕ) → k < length table → (x : Spot) → x ≡ spot_in t k → x ≡ spot_of (find (name_of k) is)
spot_of_law is t e k h x q = q ∙ ap (λ (s : Spots). spot_in s k) e ∙ row_spot is k h

-- a test of each row's spot is a test of each row's item
at_rows : (f : Row → Spot → Bool) (g : Row → Found → Bool) → ((r : Row) (x : Found) → f r (spot_of x) ≡ g r x) → (is : List Item) (t : Spots) (rs : List Row) (k : ℕ)
    → ((j : ℕ) → j < length rs → spot_in t (k + j) ≡ spot_of (find (get_or (names_of rs) j []) is)) → any_at f rs t k ≡ any_row (λ r. g r (find r.name is)) rs
at_rows f g h is t [] k w = refl
at_rows f g h is t (r ∷ rs) k w =
    ap₂ (λ (a b : Bool). a || b)
    (ap (λ (j : ℕ). f r (spot_in t j)) (omega arith) ∙ ap (f r) (w 0 (omega arith)) ∙ h r (find r.name is))
    (at_rows f g h is t rs (suc k) (λ j l. ap (spot_in t) (omega arith) ∙ w (suc j) (omega arith)))

pub missing_is : (is : List Item) → absent_at (spots_of is) ≡ missing is
unfolding absent_at missing
missing_is is =
    at_rows (λ r x. r.required && away x) (λ r x. r.required && absent x) (λ r x. ap (λ (b : Bool). r.required && b) (away_is x)) is (spots_of is) table 0
    (λ j l. ap (spot_in (spots_of is)) (omega arith) ∙ row_spot is j l)

pub length_is : (is : List Item) → bad_length_at (spots_of is) ≡ bad_length is
unfolding bad_length_at bad_length
length_is is =
    at_rows (λ r x. wrong_at r.allowed x) (λ r x. wrong r.allowed x) (λ r x. wrong_is r.allowed x) is (spots_of is) table 0
    (λ j l. ap (spot_in (spots_of is)) (omega arith) ∙ row_spot is j l)
