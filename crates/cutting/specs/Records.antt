-- Records whole and begun, and how many bytes of one may be taken at once. Only proofs speak of this file: no promise names it. Assumes nothing.
use Rattle.std.specs.Prelude.{ℕ, ◌<◌, ◌≡◌, List, [], ◌∷◌, ◌++◌, length}
use Rattle.cutting.specs.Sign.{Sign, More, Whole, Wrong}

-- while a record is begun, nothing is said below `need` bytes, and there are not so many yet
pub record Steady (says : List ℕ → Sign) (need : List ℕ → ℕ) : Type 0 where
  pub begun : (h : List ℕ) → says h ≡ More → length h < need h
  pub quiet : (h t : List ℕ) → says h ≡ More → length (h ++ t) < need h → says (h ++ t) ≡ More

-- a record that is whole at its last byte, and of which nothing is said before
pub record Good (says : List ℕ → Sign) (r : List ℕ) : Type 0 where
  pub some : 0 < length r
  pub ends : says r ≡ Whole
  pub before : (p q : List ℕ) → 0 < length q → r ≡ p ++ q → says p ≡ More

abbrev pub AllGood : (List ℕ → Sign) → List (List ℕ) → Type 0
AllGood says [] = Unit {0}
AllGood says (r ∷ rs) = Good says r × AllGood says rs

-- nothing is said of these bytes nor of their fronts: of a record begun
abbrev pub Begun : (List ℕ → Sign) → List ℕ → Type 0
Begun says h = (p q : List ℕ) → h ≡ p ++ q → says p ≡ More

-- no refusal's number is 0
abbrev pub Real : (List ℕ → Sign) → Type 0
Real says = (h : List ℕ) (n : ℕ) → says h ≡ Wrong n → 0 < n
