-- Refusals (01, "Numbers given back"): a call lists its tests in the order tried, each with its number and its place.
-- The first that holds decides. Assumes nothing.
use Rattle.std.specs.Prelude.{ℕ, ◌<◌, Bool, false, ◌≡◌, List, [], ◌∷◌, ◌⊎◌}
use Rattle.laws.specs.Pick.{pick}

-- one line of 01's table: refused with this number, at this place, where the test holds
pub record Test : Type 0 where
  pub holds : Bool
  pub number : ℕ
  pub place : ℕ

-- a test whose refusal has no place of its own: all but 2 and 3
abbrev pub test : Bool → ℕ → Test
test b n = record { holds = b; number = n; place = 0 }

-- the number given back: that of the first test that holds, 0 where none does
abbrev pub refused_with : List Test → ℕ
refused_with [] = 0
refused_with (t ∷ ts) = pick t.holds t.number (refused_with ts)

-- and its place
abbrev pub refused_at : List Test → ℕ
refused_at [] = 0
refused_at (t ∷ ts) = pick t.holds t.place (refused_at ts)

-- no test's number is 0
abbrev pub Real : List Test → Type 0
Real [] = Unit {0}
Real (t ∷ ts) = (0 < t.number) × Real ts

-- the numbers rise, from above k: then the number given is the lowest whose test holds
abbrev pub Rising : ℕ → List Test → Type 0
Rising k [] = Unit {0}
Rising k (t ∷ ts) = (k < t.number) × Rising t.number ts

-- no test holds
abbrev pub Free : List Test → Type 0
Free [] = Unit {0}
Free (t ∷ ts) = (t.holds ≡ false) × Free ts

-- t is one of the tests
abbrev pub Among : Test → List Test → Type 0
Among t [] = ⊥
Among t (u ∷ ts) = (t ≡ u) ⊎ Among t ts
