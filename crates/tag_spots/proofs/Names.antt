-- Tables of names: their numbers find what they find. Assumes nothing.
use Prim.Native.Nat.{ℕ, zero, suc, ◌+◌, ◌*◌, ◌<◌}
use mathlib.Core.Path.{◌≡◌, refl, sym, ap, ap₂, ◌∙◌}
use mathlib.Core.Bool.{Bool, true, false, ◌&&◌, true≢false}
use mathlib.Core.List.{List, [], ◌∷◌, ◌++◌, map}
use native.Mathlib.Omega.{arith}
use borrow.Author.Tests.{eq-eqb, ne_eqb, eqb-true, ltb-true}
use lib.Dec.{eqb, ltb}
use lib.ListN.{length, get_or, take, drop, replicate, length-replicate}
use lib.Seq.{take_at, drop_at, drop-drop}
use Rattle.laws.specs.Big.{big_of, Bytes}
use Rattle.laws.proofs.Big.{bytes_take, bytes_drop}
use Rattle.laws.proofs.Flags.{both}
use Rattle.items.specs.Items.{Item, Found, none, some, cut_of, same_name, find, spot_of, All}
use Rattle.items.proofs.Names.{same_list, list_same, number_same}
use Rattle.items.proofs.Stands.{Stands, stand}
use Rattle.items.specs.declared.Spot.{Spot}
use Rattle.tag_spots.specs.Rows.{each, in_row, keys_of, keyed, taken, row_after, starts_after, bits_after, starts_for, bits_for}

-- ---- a name and its number

-- the four bytes of a name
abbrev small : List ℕ → Bool
small [] = true
small (x ∷ s) = ltb x 256 && small s

small_bytes : (s : List ℕ) → small s ≡ true → Bytes s
small_bytes [] e k = omega arith
small_bytes (x ∷ s) e zero = ltb-true x 256 (both (ltb x 256) (small s) e).0
small_bytes (x ∷ s) e (suc k) = small_bytes s (both (ltb x 256) (small s) e).1 k

abbrev pub zeros : ℕ → List ℕ
zeros n = replicate n 0

-- every name of a table is four bytes: a computed test
abbrev pub proper : List (List ℕ) → Bool
proper [] = true
proper (n ∷ ns) = (eqb (length n) 4 && small n) && proper ns

four_of : (n : List ℕ) (ns : List (List ℕ)) → proper (n ∷ ns) ≡ true → length n ≡ 4
four_of n ns p = eqb-true (length n) 4 (both (eqb (length n) 4) (small n) (both (eqb (length n) 4 && small n) (proper ns) p).0).0

-- the name of row k, out of the names one behind the other
pub name_at : (ns : List (List ℕ)) → proper ns ≡ true → (k : ℕ) → k < length ns → take 4 (drop (4 * k) (in_row ns)) ≡ get_or ns k []
name_at [] p k h = absurd (omega arith)
name_at (n ∷ ns) p zero h = take_at n (in_row ns) 4 (four_of n ns p)
name_at (n ∷ ns) p (suc k) h =
    let e : 4 * suc k ≡ 4 + 4 * k = omega arith in
    ap (λ (j : ℕ). take 4 (drop j (n ++ in_row ns))) e
    ∙ ap (take 4) (sym (drop-drop (4 * k) 4 (n ++ in_row ns)) ∙ ap (drop (4 * k)) (drop_at n (in_row ns) 4 (four_of n ns p)))
    ∙ name_at ns (both (eqb (length n) 4 && small n) (proper ns) p).1 k (omega arith)

same_key : (n m : List ℕ) → Bytes n → Bytes m → length n ≡ length m → eqb (big_of n) (big_of m) ≡ same_name n m
same_key n m f g l = go (same_name n m) refl
  where
    go : (t : Bool) → same_name n m ≡ t → eqb (big_of n) (big_of m) ≡ t
    go true e = eq-eqb (big_of n) (big_of m) (ap big_of (same_list n m e))
    go false e = ne_eqb (big_of n) (big_of m) (λ h. true≢false (sym (list_same n m (number_same n m f g l h)) ∙ e))

module _ (S : List ℕ) (sb : Bytes S) where
  keyed_in : (n : List ℕ) → Bytes n → length n ≡ 4 → (is : List Item) → All (Stands S) is → keyed (big_of n) is ≡ find n is
  unfolding keyed find
  keyed_in n nb four [] a = refl
  keyed_in n nb four (i ∷ is) a =
      let e : eqb (big_of n) (big_of i.name) ≡ same_name n i.name = same_key n i.name nb (named i a.0) (four ∙ sym a.0.four) in
      rw (e, keyed_in n nb four is a.1) refl
    where
      named : (i : Item) → Stands S i → Bytes i.name
      named i s k = rw s.called (bytes_take 4 (drop i.place S) (bytes_drop i.place S sb) k)

  -- rows that have nothing yet take what their keys find
  fresh : (f : Spot → ℕ) → ((x : Found) → f (taken (record { start = 0; bits = 0 }) x) ≡ f (spot_of x)) → (ns : List (List ℕ)) → proper ns ≡ true
      → each (λ j. f (row_after (map big_of ns) (cut_of S).items (zeros (length ns)) (zeros (length ns)) j)) (length (map big_of ns)) ≡ map (λ n. f (spot_of (find n (cut_of S).items))) ns
  fresh f g [] p = refl
  fresh f g (n ∷ ns) p =
      let q = both (eqb (length n) 4 && small n) (proper ns) p in
      let r = both (eqb (length n) 4) (small n) q.0 in
      let k = keyed_in n (small_bytes n r.1) (eqb-true (length n) 4 r.0) (cut_of S).items (stand S) in
      ap₂ (λ (x : ℕ) (l : List ℕ). x ∷ l) (g (keyed (big_of n) (cut_of S).items) ∙ ap (λ (x : Found). f (spot_of x)) k) (fresh f g ns q.1)

  first_spot : (x : Found) → taken (record { start = 0; bits = 0 }) x ≡ spot_of x
  unfolding spot_of
  first_spot none = refl
  first_spot (some i) = refl

  -- ---- a proper table: its keys are the numbers of its names, four bytes each. Then each row gets the first item of its name
  module _ (names slots : List ℕ) (ns : List (List ℕ)) (keys : keys_of names slots (length ns) ≡ map big_of ns) (p : proper ns ≡ true) where
    pub starts_named : starts_for names slots (cut_of S).items (zeros (length ns)) (zeros (length ns)) ≡ map (λ n. (spot_of (find n (cut_of S).items)).start) ns
    unfolding starts_for starts_after
    starts_named =
        rw (length-replicate {A = ℕ} (length ns) 0, eq-eqb (length ns) (length ns) refl, keys) (fresh (λ x. x.start) (λ x. ap (λ (y : Spot). y.start) (first_spot x)) ns p)

    pub bits_named : bits_for names slots (cut_of S).items (zeros (length ns)) (zeros (length ns)) ≡ map (λ n. (spot_of (find n (cut_of S).items)).bits) ns
    unfolding bits_for bits_after
    bits_named =
        rw (length-replicate {A = ℕ} (length ns) 0, eq-eqb (length ns) (length ns) refl, keys) (fresh (λ x. x.bits) (λ x. ap (λ (y : Spot). y.bits) (first_spot x)) ns p)
