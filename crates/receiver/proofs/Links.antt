-- The rules for one id, by the way taken through the code. Assumes nothing.
use Prim.Native.Nat.{ℕ, ◌+◌, ◌%◌, ◌≤◌}
use mathlib.Core.Path.{◌≡◌, refl, sym, ap, ◌∙◌}
use mathlib.Core.Bool.{Bool, true, false, not, ◌&&◌, ◌||◌}
use borrow.Author.Tests.{leb-true}
use lib.Dec.{eqb, leb}
use Rattle.laws.specs.Pick.{pick}
use Rattle.laws.proofs.Flags.{and_r}
use Rattle.receiver.specs.declared.Link.{Link}
use Rattle.receiver.specs.Link.{kept, null_of, base_of, joins, adds, link_with, link_after}

next_or : (h x : Bool) → not h || x ≡ pick h x true
next_or true x = refl
next_or false x = refl

first_or : (f x : Bool) → f || x ≡ pick f true x
first_or true x = refl
first_or false x = refl

pub kept_is : (l : Link) (i : ℕ) → l.begun && (not l.heard || eqb i l.index) ≡ kept l i
unfolding kept
kept_is l i = ap (λ (x : Bool). l.begun && x) (next_or l.heard (eqb i l.index))

pub with_open : (i n : ℕ) (b : Bool) → b ≡ true → ◌≡◌ {A = Link} (record { heard = true; index = (i + 1) % 8; begun = b; len = n }) (link_with i b n)
unfolding link_with
with_open i n b h = simp h

pub with_none : (i n : ℕ) (b : Bool) → b ≡ false → ◌≡◌ {A = Link} (record { heard = true; index = (i + 1) % 8; begun = b; len = 0 }) (link_with i b n)
unfolding link_with
with_none i n b h = simp h

module _ (l : Link) (i : ℕ) (f t : Bool) (n : ℕ) where
  pub joins_is : (z k : Bool) → z ≡ null_of f t n → k ≡ kept l i → not z && (f || k) ≡ joins l i f t n
  unfolding joins
  joins_is z k ez ek = rw (ez, ek) (ap (λ (x : Bool). not (null_of f t n) && x) (first_or f (kept l i)))

  pub adds_is : (j : Bool) (b : ℕ) → j ≡ joins l i f t n → b ≡ base_of l f → j && leb (b + n) 4096 ≡ adds l i f t n
  unfolding adds
  adds_is j b ej eb = rw (ej, eb)

  module _ (r : Link) (z : Bool) (ez : z ≡ null_of f t n) where
    pub after_null : (k : Bool) → z ≡ true → k ≡ kept l i → r ≡ link_with i k l.len → r ≡ link_after l i f t n
    unfolding link_after
    after_null k h ek er = let x : null_of f t n ≡ true = sym ez ∙ h in rw (x, ← ek) er

    module _ (a : Bool) (hz : z ≡ false) (ea : a ≡ adds l i f t n) where
      pub after_more : (b : ℕ) → a ≡ true → not t ≡ true → b ≡ base_of l f → r ≡ link_with i true (b + n) → r ≡ link_after l i f t n
      unfolding link_after
      after_more b h k eb er = let x : null_of f t n ≡ false = sym ez ∙ hz in rw (x, ← ea, h, k, ← eb) er

      pub after_shut : a && not t ≡ false → r ≡ link_with i false 0 → r ≡ link_after l i f t n
      unfolding link_after link_with
      after_shut h er = let x : null_of f t n ≡ false = sym ez ∙ hz in rw (x, ← ea, h) er

  -- what is added fits
  pub adds_fit : adds l i f t n ≡ true → base_of l f + n ≤ 4096
  unfolding adds
  adds_fit e = leb-true (base_of l f + n) 4096 (and_r (joins l i f t n) (leb (base_of l f + n) 4096) e)

  pub more_fits : (a : Bool) (b : ℕ) → a ≡ adds l i f t n → a ≡ true → b ≡ base_of l f → b + n ≤ 4096
  more_fits a b ea h eb = rw eb (adds_fit (sym ea ∙ h))
