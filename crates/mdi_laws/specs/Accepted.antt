-- B1: the reader accepts a packet exactly if it is well formed, down to the bytes; a refusal has the lowest number whose condition holds
-- (01, "MDI packet", "Numbers given back"). Assumes nothing.
use Rattle.std.specs.Prelude.{ℕ, ◌≤◌, true, ◌≡◌, List, ◌++◌}
use Rattle.laws.specs.Big.{Bytes}
use Rattle.laws.specs.Refuse.{Test, Among}
use Rattle.items.specs.Items.{Item}
use Rattle.items.specs.Joined.{joined}
use Rattle.mdi.specs.Refusals.{tests_for}
use Rattle.mdi.specs.Reading.{read_for}
use Rattle.mdi_laws.specs.WellFormed.{WellFormed}
use Rattle.mdi_laws.specs.NoMatter.{Packs}

-- there are items, each whole and no name twice, and at most seven bytes more; and the items alone are a well-formed packet
pub record Made (p : List ℕ) : Type 0 where
  pub items : List Item
  pub padding : List ℕ
  pub all : p ≡ joined items ++ padding
  pub packs : Packs items padding
  pub formed : WellFormed (joined items)

-- a condition of 01's table of refusals holds, with this number and place
pub record Holds (p : List ℕ) (number place : ℕ) : Type 0 where
  pub condition : Test
  pub listed : Among condition (tests_for p)
  pub holds : condition.holds ≡ true
  pub number_is : condition.number ≡ number
  pub place_is : condition.place ≡ place

-- B1. A packet is accepted exactly if it is well formed
pub record Accepted : Type 0 where
  pub if_well_formed : (p : List ℕ) → WellFormed p → (read_for p).number ≡ 0
  pub only_then : (p : List ℕ) → (read_for p).number ≡ 0 → WellFormed p
  -- that is, exactly if there are such items, and at most seven bytes more
  pub made : (p : List ℕ) → Bytes p → WellFormed p → Made p
  pub made_back : (p : List ℕ) → Made p → WellFormed p
  -- refused, a condition with the number and the place given holds, and none with a lower number
  pub holds : (p : List ℕ) → ((read_for p).number ≡ 0 → ⊥) → Holds p (read_for p).number (read_for p).place
  pub lowest : (p : List ℕ) (t : Test) → Among t (tests_for p) → t.holds ≡ true → (read_for p).number ≤ t.number
