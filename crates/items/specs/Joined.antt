-- Items as bytes (01, "MDI packet": a 4-byte name, a 4-byte big-endian length in bits, a value; empty items are left out). Assumes
-- nothing.
use Rattle.std.specs.Prelude.{ℕ, ◌+◌, ◌^◌, ◌<◌, ◌≡◌, List, [], ◌∷◌, ◌++◌, eqb, length}
use Rattle.laws.specs.Big.{bytes_of}
use Rattle.laws.specs.Pick.{pick}
use Rattle.items.specs.Items.{Item, Found, none, some, find, bytes_for}

-- an item as bytes: its place does not count
unfoldable pub item_bytes : List ℕ → ℕ → List ℕ → List ℕ
item_bytes name bits value = name ++ (bytes_of 4 bits ++ value)

unfoldable pub wire_of : Item → List ℕ
wire_of i = item_bytes i.name i.bits i.value

-- items one behind the other
unfoldable pub joined : List Item → List ℕ
joined [] = []
joined (i ∷ is) = wire_of i ++ joined is

-- an item at an offset
abbrev pub put_at : ℕ → Item → Item
put_at at i = record { place = at; name = i.name; bits = i.bits; value = i.value }

-- the same items, the first at an offset and each behind the last
unfoldable pub placed : ℕ → List Item → List Item
placed at [] = []
placed at (i ∷ is) = put_at at i ∷ placed (at + (8 + length i.value)) is

-- empty items are left out
unfoldable pub kept : List Item → List Item
kept [] = []
kept (i ∷ is) = pick (eqb i.bits 0) (kept is) (i ∷ kept is)

-- an item that can be written: four bytes of name, a length of 32 bits, and a value of that length
pub record Sound (i : Item) : Type 0 where
  pub four : length i.name ≡ 4
  pub small : i.bits < 2 ^ 32
  pub whole : length i.value ≡ bytes_for i.bits

-- ---- what proofs and the writer's steps speak of: no statement for a reader names it

-- behind no item stands one of its name
abbrev pub Distinct : List Item → Type 0
Distinct [] = Unit {0}
Distinct (i ∷ is) = (find i.name is ≡ none) × Distinct is

-- an item as it is written: an empty one is left out
unfoldable pub chunk : List ℕ → ℕ → List ℕ → List ℕ
chunk name bits value = pick (eqb bits 0) [] (item_bytes name bits value)

-- and how many bytes that takes, with n bytes of value
unfoldable pub chunk_size : ℕ → ℕ → ℕ
chunk_size bits n = pick (eqb bits 0) 0 (8 + n)

-- how long joined items are
abbrev pub total : List Item → ℕ
total [] = 0
total (i ∷ is) = 8 + length i.value + total is

-- what is found, whatever its place
unfoldable pub bare : Found → Found
bare none = none
bare (some i) = some (put_at 0 i)

-- what is left of it where empty items are left out
unfoldable pub keep : Found → Found
keep none = none
keep (some i) = pick (eqb i.bits 0) none (some i)
