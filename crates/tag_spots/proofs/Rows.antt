-- The row of a key, and what is noted there. Assumes nothing.
use Prim.Native.Nat.{ℕ, zero, suc, ◌≤◌, ◌<◌}
use mathlib.Core.Path.{◌≡◌, refl, sym, ap, ◌∙◌}
use mathlib.Core.Bool.{Bool, true, false, ◌&&◌}
use mathlib.Core.List.{List, [], ◌∷◌}
use native.Mathlib.Omega.{arith}
use borrow.Author.Tests.{eq-eqb, ne_eqb, eqb-true, eqb-false}
use lib.Dec.{eqb}
use lib.ListN.{length, get_or, set, length-set}
use lib.Seq.{get_or-set_same, get_or-set_other, set_out}
use Rattle.laws.specs.Pick.{pick}
use Rattle.items.specs.declared.Spot.{Spot}
use Rattle.tag_spots.specs.Rows.{spot_at}
use Rattle.tag_spots.specs.Notes.{row_of, noted_at}

-- no other row has the key
abbrev pub Only : ℕ → List ℕ → Type 0
Only k ks = (j : ℕ) → j < length ks → get_or ks j 0 ≡ k → j ≡ row_of k ks

pub row_le : (k : ℕ) (ks : List ℕ) → row_of k ks ≤ length ks
unfolding row_of
row_le k [] = omega arith
row_le k (x ∷ ks) = go (eqb x k) (row_le k ks)
  where
    go : (b : Bool) → row_of k ks ≤ length ks → pick b 0 (suc (row_of k ks)) ≤ suc (length ks)
    go true h = omega arith
    go false h = omega arith

-- the row has the key
pub row_hit : (k : ℕ) (ks : List ℕ) → row_of k ks < length ks → get_or ks (row_of k ks) 0 ≡ k
unfolding row_of
row_hit k [] h = absurd (omega arith)
row_hit k (x ∷ ks) h = go (eqb x k) refl h (row_hit k ks)
  where
    go : (b : Bool) → eqb x k ≡ b → pick b 0 (suc (row_of k ks)) < suc (length ks) → (row_of k ks < length ks → get_or ks (row_of k ks) 0 ≡ k)
        → get_or (x ∷ ks) (pick b 0 (suc (row_of k ks))) 0 ≡ k
    go true e h ih = eqb-true x k e
    go false e h ih = ih (omega arith)

-- a key of the table has a row
pub row_in : (k : ℕ) (ks : List ℕ) (j : ℕ) → j < length ks → get_or ks j 0 ≡ k → row_of k ks < length ks
unfolding row_of
row_in k [] j h e = absurd (omega arith)
row_in k (x ∷ ks) zero h e = rw (eq-eqb x k e) (omega arith)
row_in k (x ∷ ks) (suc j) h e = go (eqb x k) (row_in k ks j (omega arith) e)
  where
    go : (b : Bool) → row_of k ks < length ks → pick b 0 (suc (row_of k ks)) < suc (length ks)
    go true h = omega arith
    go false h = omega arith

-- ---- the spot of a row
-- after an item, of the row's name or not: the first item of the name stays
unfoldable pub noted : Spot → Bool → Spot → Spot
noted old same x = pick (same && eqb old.start 0) x old

module _ (ks : List ℕ) (k start size : ℕ) (starts bits : List ℕ) (a : Only k ks) (ls : length starts ≡ length ks) (lb : length bits ≡ length ks) where
  pub noted_length : (v : ℕ) (l : List ℕ) → length (noted_at (row_of k ks) v starts l) ≡ length l
  unfolding noted_at
  noted_length v l = go (eqb (get_or starts (row_of k ks) 0) 0)
    where
      go : (b : Bool) → length (pick b (set l (row_of k ks) v) l) ≡ length l
      go true = length-set l (row_of k ks) v
      go false = refl

  here : (j : ℕ) → j < length ks → j ≡ row_of k ks → (b : Bool) → eqb (get_or starts j 0) 0 ≡ b
      → spot_at (pick b (set starts j start) starts) (pick b (set bits j size) bits) j ≡ pick b (record { start = start; bits = size }) (spot_at starts bits j)
  here j h e true f = rw (get_or-set_same starts j start 0 (omega arith), get_or-set_same bits j size 0 (omega arith)) refl
  here j h e false f = refl

  there : (i j : ℕ) → (j ≡ i → ⊥) → (b : Bool) → spot_at (pick b (set starts i start) starts) (pick b (set bits i size) bits) j ≡ spot_at starts bits j
  there i j n true = rw (get_or-set_other starts i j start 0 n, get_or-set_other bits i j size 0 n) refl
  there i j n false = refl

  -- what one item changes, row by row
  pub noted_row : (j : ℕ) → j < length ks
      → spot_at (noted_at (row_of k ks) start starts starts) (noted_at (row_of k ks) size starts bits) j ≡ noted (spot_at starts bits j) (eqb (get_or ks j 0) k) (record { start = start; bits = size })
  unfolding noted_at noted
  noted_row j h = go (eqb j (row_of k ks)) refl
    where
      go : (b : Bool) → eqb j (row_of k ks) ≡ b
          → spot_at (pick (eqb (get_or starts (row_of k ks) 0) 0) (set starts (row_of k ks) start) starts) (pick (eqb (get_or starts (row_of k ks) 0) 0) (set bits (row_of k ks) size) bits) j
          ≡ pick (eqb (get_or ks j 0) k && eqb (get_or starts j 0) 0) (record { start = start; bits = size }) (spot_at starts bits j)
      go true e =
          let i : j ≡ row_of k ks = eqb-true j (row_of k ks) e in
          let f : get_or ks j 0 ≡ k = ap (λ (x : ℕ). get_or ks x 0) i ∙ row_hit k ks (row_lt i) in
          rw (eq-eqb (get_or ks j 0) k f, ← i) (here j h i (eqb (get_or starts j 0) 0) refl)
        where
          row_lt : j ≡ row_of k ks → row_of k ks < length ks
          row_lt i = omega arith
      go false e =
          let n = eqb-false j (row_of k ks) e in
          rw (ne_eqb (get_or ks j 0) k (λ f. n (a j h f))) (there (row_of k ks) j n (eqb (get_or starts (row_of k ks) 0) 0))

-- ---- `note`
module _ (ks : List ℕ) (k start size i : ℕ) (starts bits : List ℕ) (e : i ≡ row_of k ks) where
  pub note_first : get_or starts i 0 ≡ 0 → (set starts i start ≡ noted_at (row_of k ks) start starts starts) × (set bits i size ≡ noted_at (row_of k ks) size starts bits)
  unfolding noted_at
  note_first z = rw (← e, eq-eqb (get_or starts i 0) 0 z) (refl, refl)

  pub note_later : (get_or starts i 0 ≡ 0 → ⊥) → (starts ≡ noted_at (row_of k ks) start starts starts) × (bits ≡ noted_at (row_of k ks) size starts bits)
  unfolding noted_at
  note_later z = rw (← e, ne_eqb (get_or starts i 0) 0 z) (refl, refl)

  out : (v : ℕ) (l : List ℕ) → length l ≤ i → l ≡ noted_at (row_of k ks) v starts l
  unfolding noted_at
  out v l h = rw (← e) (go (eqb (get_or starts i 0) 0))
    where
      go : (b : Bool) → l ≡ pick b (set l i v) l
      go true = sym (set_out l i v h)
      go false = refl

  pub note_none : length starts ≤ i → length bits ≤ i → (starts ≡ noted_at (row_of k ks) start starts starts) × (bits ≡ noted_at (row_of k ks) size starts bits)
  note_none h g = (out start starts h, out size bits g)
