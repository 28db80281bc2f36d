-- Names: the same byte by byte, as lists and as numbers. Assumes nothing.
use mathlib.Core.Path.{◌≡◌, refl, sym, ap, ap₂, ◌∙◌}
use mathlib.Core.Bool.{Bool, true, false, true≢false}
use mathlib.Core.List.{List, [], ◌∷◌}
use Prim.Native.Nat.{ℕ}
use borrow.Author.Tests.{eq-eqb, ne_eqb, eqb-true}
use lib.Dec.{eqb}
use lib.ListN.{length}
use Rattle.laws.specs.Big.{bytes_of, big_of, Bytes}
use Rattle.laws.proofs.Big.{bytes_back}
use Rattle.laws.proofs.Flags.{both}
use Rattle.items.specs.Items.{same_name}

pub same_list : (a b : List ℕ) → same_name a b ≡ true → a ≡ b
unfolding same_name
same_list [] [] e = refl
same_list [] (y ∷ b) e = absurd (true≢false (sym e))
same_list (x ∷ a) [] e = absurd (true≢false (sym e))
same_list (x ∷ a) (y ∷ b) e = let t = both (eqb x y) (same_name a b) e in ap₂ (λ (z : ℕ) (l : List ℕ). z ∷ l) (eqb-true x y t.0) (same_list a b t.1)

pub same_self : (a : List ℕ) → same_name a a ≡ true
unfolding same_name
same_self [] = refl
same_self (x ∷ a) = rw (eq-eqb x x refl) (same_self a)

pub list_same : (a b : List ℕ) → a ≡ b → same_name a b ≡ true
list_same a b e = rw (← e) (same_self a)

-- lists that are not the same, and are
pub same_no : (a b : List ℕ) → (a ≡ b → ⊥) → same_name a b ≡ false
same_no a b n = go (same_name a b) refl
  where
    go : (t : Bool) → same_name a b ≡ t → t ≡ false
    go true e = absurd (n (same_list a b e))
    go false e = refl

-- bytes of one length are the same exactly if their numbers are
pub number_same : (a b : List ℕ) → Bytes a → Bytes b → length a ≡ length b → big_of a ≡ big_of b → a ≡ b
number_same a b f g l e =
    sym (bytes_back a f) ∙ ap₂ (λ (n x : ℕ). bytes_of n x) l e ∙ bytes_back b g

pub same_number : (a b : List ℕ) → Bytes a → Bytes b → length a ≡ length b → eqb (big_of b) (big_of a) ≡ same_name a b
same_number a b f g l = go (same_name a b) refl
  where
    go : (t : Bool) → same_name a b ≡ t → eqb (big_of b) (big_of a) ≡ t
    go true e = eq-eqb (big_of b) (big_of a) (ap big_of (sym (same_list a b e)))
    go false e = ne_eqb (big_of b) (big_of a) (λ h. true≢false (sym (list_same a b (number_same a b f g l (sym h))) ∙ e))
