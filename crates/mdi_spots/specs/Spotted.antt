-- What this crate's calls answer: where the items of the table's rows stand, and 4 and 5 of Table.antt asked of these spots. That they are
-- the conditions over the items is proofs/Items.antt. Assumes nothing.
use Rattle.std.specs.Prelude.{ℕ, suc, Bool, false, ◌&&◌, ◌||◌, not, List, [], ◌∷◌, map, eqb, get_or}
use Rattle.items.specs.Items.{Item, Cut, find, spot_of}
use Rattle.items.specs.declared.Spot.{Spot}
use Rattle.mdi_spots.specs.Table.{Row, table, names_of}
use Rattle.mdi_spots.specs.declared.Spots.{Spots}
use Rattle.mdi_spots.specs.declared.Passed.{Passed}

unfoldable pub spots_of : List Item → Spots
spots_of is = record { start = map (λ n. (spot_of (find n is)).start) (names_of table); bits = map (λ n. (spot_of (find n is)).bits) (names_of table) }

-- with where the whole items stop
unfoldable pub passed_of : Cut → Passed
passed_of c = record { spots = spots_of c.items; stop = c.stop }

-- the spot of row k; 0 and 0 where there is no such row
abbrev pub spot_in : Spots → ℕ → Spot
spot_in t k = record { start = get_or t.start k 0; bits = get_or t.bits k 0 }

-- ---- 4 and 5
-- no value starts at 0: a header stands before it
abbrev pub away : Spot → Bool
away x = eqb x.start 0

unfoldable pub wrong_at : (ℕ → Bool) → Spot → Bool
wrong_at ok x = not (away x) && not (ok x.bits)

-- a test holds of some row and its spot, from row k on
abbrev pub any_at : (Row → Spot → Bool) → List Row → Spots → ℕ → Bool
any_at f [] t k = false
any_at f (r ∷ rs) t k = f r (spot_in t k) || any_at f rs t (suc k)

unfoldable pub absent_at : Spots → Bool
absent_at t = any_at (λ r x. r.required && away x) table t 0

unfoldable pub bad_length_at : Spots → Bool
bad_length_at t = any_at (λ r x. wrong_at r.allowed x) table t 0
