-- A call that answers yes or no and refuses with one number only: what a yes says, and which number it is. Assumes nothing.
use Prim.Native.Nat.{ℕ, ◌<◌}
use mathlib.Core.Bool.{Bool, true, false, true≢false}
use mathlib.Core.List.{List, [], ◌∷◌, ◌++◌}
use mathlib.Core.Logic.{◌⊎◌, inl, inr}
use mathlib.Core.Path.{◌≡◌, refl, sym}
use borrow.Author.Tests.{eqb-true}
use lib.Dec.{eqb}
use Rattle.laws.specs.Pick.{pick}
use Rattle.laws.specs.Refuse.{Test, refused_with, Real}

-- a yes: not refused, and the test holds
pub yes_means : (n : ℕ) (t : Bool) → pick (eqb n 0) t false ≡ true → (n ≡ 0) × (t ≡ true)
yes_means n t e = go (eqb n 0) refl e
  where
    go : (c : Bool) → eqb n 0 ≡ c → pick c t false ≡ true → (n ≡ 0) × (t ≡ true)
    go true q e = (eqb-true _ _ q, e)
    go false q e = absurd (true≢false (sym e))

-- every test has the number n
abbrev pub Numbered : ℕ → List Test → Type 0
Numbered n [] = Unit {0}
Numbered n (t ∷ ts) = (t.number ≡ n) × Numbered n ts

module _ (n : ℕ) where
  pub numbered_join : (ts us : List Test) → Numbered n ts → Numbered n us → Numbered n (ts ++ us)
  numbered_join [] us a b = b
  numbered_join (t ∷ ts) us a b = (a.0, numbered_join ts us a.1 b)

  pub numbered_real : (ts : List Test) → 0 < n → Numbered n ts → Real ts
  numbered_real [] h a = tt
  numbered_real (t ∷ ts) h a = (rw a.0 h, numbered_real ts h a.1)

  -- so that is the number, or there is none
  pub one_number : (ts : List Test) → Numbered n ts → (refused_with ts ≡ 0) ⊎ (refused_with ts ≡ n)
  one_number [] a = inl refl
  one_number (t ∷ ts) a = go t.holds (one_number ts a.1)
    where
      go : (b : Bool) → (refused_with ts ≡ 0) ⊎ (refused_with ts ≡ n) → (pick b t.number (refused_with ts) ≡ 0) ⊎ (pick b t.number (refused_with ts) ≡ n)
      go true ih = inr a.0
      go false ih = ih
