-- What does not matter in an MDI packet (01, "MDI packet"), said of packets built from items: an unknown item, the order of the items,
-- padding, the minor revision, the reserved bits of `sdci`. Assumes nothing.
use Rattle.std.specs.Prelude.{ℕ, ◌≤◌, ◌<◌, false, ◌≡◌, List, ◌∷◌, ◌++◌, length}
use Rattle.laws.specs.Limits.{longest}
use Rattle.items.specs.Items.{Item, among, All, Once}
use Rattle.items.specs.Joined.{joined, Sound}
use Rattle.items.specs.Order.{Reordered}
use Rattle.mdi_spots.specs.Names.{ptr, sdci}
use Rattle.mdi_spots.specs.Table.{table, names_of}
use Rattle.mdi.specs.Reading.{read_for, stream_for}
use Rattle.mdi_laws.specs.Ignored.{ButMinor, ButReserved}

-- the names of 01's table
abbrev pub known : List (List ℕ)
known = names_of table

-- items and padding whose packet is not refused with 1, 2 or 3
pub record Packs (is : List Item) (padding : List ℕ) : Type 0 where
  pub sound : All Sound is
  pub once : Once is
  pub few : length padding < 8
  pub short : length (joined is ++ padding) ≤ longest

-- the calls `read` and `stream` answer the same: number, place, record and streams
pub record ReadAlike (p q : List ℕ) : Type 0 where
  pub content : read_for p ≡ read_for q
  pub stream : (k : ℕ) → stream_for p k ≡ stream_for q k

-- the item with another value
abbrev pub with_value : Item → List ℕ → Item
with_value i v = record { place = i.place; name = i.name; bits = i.bits; value = v }

pub record NoMatter : Type 0 where
  -- an unknown item, put in anywhere
  pub unknown : (before behind : List Item) (i : Item) (padding : List ℕ) → among i.name known ≡ false → Packs (before ++ (i ∷ behind)) padding
      → ReadAlike (joined (before ++ (i ∷ behind)) ++ padding) (joined (before ++ behind) ++ padding)
  -- the order of the items
  pub order : (is js : List Item) (padding : List ℕ) → Reordered is js → Packs is padding → ReadAlike (joined is ++ padding) (joined js ++ padding)
  -- padding, from none to seven bytes
  pub padding : (is : List Item) (r s : List ℕ) → Packs is r → Packs is s → ReadAlike (joined is ++ r) (joined is ++ s)
  -- the minor revision
  pub minor : (before behind : List Item) (i : Item) (v padding : List ℕ) → i.name ≡ ptr → length v ≡ length i.value → ButMinor i.value v
      → Packs (before ++ (i ∷ behind)) padding → ReadAlike (joined (before ++ (i ∷ behind)) ++ padding) (joined (before ++ (with_value i v ∷ behind)) ++ padding)
  -- the reserved bits of `sdci`
  pub reserved : (before behind : List Item) (i : Item) (v padding : List ℕ) → i.name ≡ sdci → ButReserved i.value v
      → Packs (before ++ (i ∷ behind)) padding → ReadAlike (joined (before ++ (i ∷ behind)) ++ padding) (joined (before ++ (with_value i v ∷ behind)) ++ padding)
