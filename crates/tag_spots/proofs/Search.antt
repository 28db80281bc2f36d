-- The keys of a table, and the search by slots. Assumes nothing.
use Prim.Native.Nat.{ℕ, zero, suc, ◌*◌, ◌%◌, ◌^◌, ◌≤◌, ◌<◌}
use mathlib.Core.Path.{◌≡◌, refl, sym, ap, ◌∙◌}
use mathlib.Core.Bool.{Bool, true, false}
use mathlib.Core.List.{List, [], ◌∷◌}
use mathlib.Core.Logic.{⊎_elim}
use native.Mathlib.Omega.{arith}
use native.Mathlib.Nat.{eq-or-lt_of_le, mod-lt}
use borrow.Author.Tests.{eq-eqb, eqb-true}
use lib.Dec.{eqb}
use lib.ListN.{length, get_or, get_or-eq_default}
use Rattle.laws.specs.Big.{number_at}
use Rattle.laws.specs.Pick.{pick}
use Rattle.tag_spots.specs.Rows.{each, key_at, keys_of}
use Rattle.tag_spots.specs.Notes.{row_of}
use Rattle.tag_spots.proofs.Rows.{Only, row_le, row_hit, row_in}

pub each_length : (f : ℕ → ℕ) (n : ℕ) → length (each f n) ≡ n
each_length f zero = refl
each_length f (suc n) = ap suc (each_length (λ j. f (suc j)) n)

pub each_at : (f : ℕ → ℕ) (n j : ℕ) → j < n → get_or (each f n) j 0 ≡ f j
each_at f zero j h = absurd (omega arith)
each_at f (suc n) zero h = refl
each_at f (suc n) (suc j) h = each_at (λ i. f (suc i)) n j (omega arith)

default : (l : List ℕ) (i d e : ℕ) → i < length l → get_or l i d ≡ get_or l i e
default [] i d e h = absurd (omega arith)
default (x ∷ l) zero d e h = refl
default (x ∷ l) (suc i) d e h = default l i d e (omega arith)

pub keys_length : (names slots : List ℕ) (n : ℕ) → length (keys_of names slots n) ≡ n
unfolding keys_of
keys_length names slots n = each_length (key_at names slots n) n

module _ (names slots : List ℕ) (n k : ℕ) (low : k < 2 ^ 32) where
  keys_at : (j : ℕ) → j < length (keys_of names slots n) → get_or (keys_of names slots n) j 0 ≡ key_at names slots n j
  unfolding keys_of
  keys_at j h = let l = keys_length names slots n in each_at (key_at names slots n) n j (omega arith)

  -- a row that has the key: the key's slot holds it, and its name has the number
  held : (j : ℕ) → key_at names slots n j ≡ k → (get_or slots (k % length slots) n ≡ j) × (number_at 4 names (4 * j) ≡ k)
  unfolding key_at
  held j e = go (eqb (get_or slots (number_at 4 names (4 * j) % length slots) n) j) refl e
    where
      go : (b : Bool) → eqb (get_or slots (number_at 4 names (4 * j) % length slots) n) j ≡ b → pick b (number_at 4 names (4 * j)) (2 ^ 32) ≡ k
          → (get_or slots (k % length slots) n ≡ j) × (number_at 4 names (4 * j) ≡ k)
      go true t f = (ap (λ (x : ℕ). get_or slots (x % length slots) n) (sym f) ∙ eqb-true _ j t, f)
      go false t f = absurd (omega arith)

  slot_of : (j : ℕ) → j < length (keys_of names slots n) → get_or (keys_of names slots n) j 0 ≡ k → (get_or slots (k % length slots) n ≡ j) × (number_at 4 names (4 * j) ≡ k)
  slot_of j h e = held j (sym (keys_at j h) ∙ e)

  -- so no other row has it
  pub slots_only : Only k (keys_of names slots n)
  slots_only j h e =
      let r = row_in k (keys_of names slots n) j h e in
      sym (slot_of j h e).0 ∙ (slot_of (row_of k (keys_of names slots n)) r (row_hit k (keys_of names slots n) r)).0

  -- ---- `row_of`
  missed : ((j : ℕ) → j < n → get_or slots (k % length slots) n ≡ j → number_at 4 names (4 * j) ≡ k → ⊥) → n ≡ row_of k (keys_of names slots n)
  missed never =
      let l = keys_length names slots n in
      ⊎_elim
      (λ e. sym l ∙ sym e)
      (λ lt.
      let s = slot_of (row_of k (keys_of names slots n)) lt (row_hit k (keys_of names slots n) lt) in
      absurd (never (row_of k (keys_of names slots n)) (omega arith) s.0 s.1))
      (eq-or-lt_of_le (row_le k (keys_of names slots n)))

  pub row_empty : length slots ≡ 0 → n ≡ row_of k (keys_of names slots n)
  row_empty z = missed (λ j h e f. let d : get_or slots (k % length slots) n ≡ n = get_or-eq_default slots n {n = k % length slots} (omega arith) in omega arith)

  module _ (some' : length slots ≡ 0 → ⊥) (row : ℕ) (r : row ≡ get_or slots (k % length slots) 0) where
    is_slot : row ≡ get_or slots (k % length slots) n
    is_slot = r ∙ default slots (k % length slots) 0 n (mod-lt k (omega (arith, some')))

    pub row_here : (x : ℕ) → row < n → x ≡ number_at 4 names (4 * row) → x ≡ k → row ≡ row_of k (keys_of names slots n)
    unfolding key_at
    row_here x h e f =
        let l = keys_length names slots n in
        let g : row < length (keys_of names slots n) = omega arith in
        let v : number_at 4 names (4 * row) ≡ k = sym e ∙ f in
        slots_only row g (keys_at row g ∙ rw (v, eq-eqb (get_or slots (k % length slots) n) row (sym is_slot)) refl)

    pub row_other : (x : ℕ) → x ≡ number_at 4 names (4 * row) → (x ≡ k → ⊥) → n ≡ row_of k (keys_of names slots n)
    row_other x e f = missed (λ j h s v. f (e ∙ ap (λ (i : ℕ). number_at 4 names (4 * i)) (is_slot ∙ s) ∙ v))

    pub row_none : n ≤ row → n ≡ row_of k (keys_of names slots n)
    row_none h = missed (λ j g s v. let q = is_slot in omega arith)
