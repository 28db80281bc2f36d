-- A table of names, and where the items of its rows stand in a packet. The names stand one behind the other, four bytes each; a row is its
-- place in the table. A table has slots: the slot at the remainder of a name's number by their count holds the name's row. Assumes nothing.
use Rattle.std.specs.Prelude.{ℕ, zero, suc, ◌*◌, ◌%◌, ◌^◌, List, [], ◌∷◌, ◌++◌, eqb, length, get_or}
use Rattle.laws.specs.Big.{big_of, number_at}
use Rattle.laws.specs.Pick.{pick}
use Rattle.items.specs.Items.{Item, Found, none, some, spot_of}
use Rattle.items.specs.declared.Spot.{Spot}

-- the values of f at 0, 1 and so on, n of them
abbrev pub each : (ℕ → ℕ) → ℕ → List ℕ
each f zero = []
each f (suc n) = f 0 ∷ each (λ j. f (suc j)) n

-- names one behind the other
abbrev pub in_row : List (List ℕ) → List ℕ
in_row [] = []
in_row (n ∷ ns) = n ++ in_row ns

-- ---- the keys
-- the number of the name of row j. A row that its slot does not hold is not found: its key is 2 ^ 32, which no name has
unfoldable pub key_at : List ℕ → List ℕ → ℕ → ℕ → ℕ
key_at names slots n j =
    pick (eqb (get_or slots (number_at 4 names (4 * j) % length slots) n) j) (number_at 4 names (4 * j)) (2 ^ 32)

-- of a table of n rows
unfoldable pub keys_of : List ℕ → List ℕ → ℕ → List ℕ
keys_of names slots n = each (key_at names slots n) n

-- ---- what the walk leaves
-- the first item whose name has this number
unfoldable pub keyed : ℕ → List Item → Found
keyed k [] = none
keyed k (i ∷ is) = pick (eqb k (big_of i.name)) (some i) (keyed k is)

abbrev pub spot_at : List ℕ → List ℕ → ℕ → Spot
spot_at starts bits j = record { start = get_or starts j 0; bits = get_or bits j 0 }

-- a row that has an item keeps it, one that has none takes the one that is found
abbrev pub taken : Spot → Found → Spot
taken x none = x
taken x (some i) = pick (eqb x.start 0) (spot_of (some i)) x

-- row j after the walk
abbrev pub row_after : List ℕ → List Item → List ℕ → List ℕ → ℕ → Spot
row_after keys is starts bits j = taken (spot_at starts bits j) (keyed (get_or keys j 0) is)

unfoldable pub starts_after : List ℕ → List Item → List ℕ → List ℕ → List ℕ
starts_after keys is starts bits = each (λ j. (row_after keys is starts bits j).start) (length keys)

unfoldable pub bits_after : List ℕ → List Item → List ℕ → List ℕ → List ℕ
bits_after keys is starts bits = each (λ j. (row_after keys is starts bits j).bits) (length keys)

-- two slices of different lengths are left as they are
unfoldable pub starts_for : List ℕ → List ℕ → List Item → List ℕ → List ℕ → List ℕ
starts_for names slots is starts bits =
    pick (eqb (length bits) (length starts)) (starts_after (keys_of names slots (length starts)) is starts bits) starts

unfoldable pub bits_for : List ℕ → List ℕ → List Item → List ℕ → List ℕ → List ℕ
bits_for names slots is starts bits =
    pick (eqb (length bits) (length starts)) (bits_after (keys_of names slots (length starts)) is starts bits) bits
