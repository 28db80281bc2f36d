-- A packet is exactly its items, one behind the other, and a rest that begins no whole item; and nothing else is (01, "MDI packet"). So
-- `(cut_of p).items` may be read as "the items of p". Assumes nothing.
use Rattle.std.specs.Prelude.{ℕ, ◌<◌, ◌≡◌, List, ◌++◌, length, drop}
use Rattle.laws.specs.Big.{Bytes}
use Rattle.items.specs.Items.{Item, size_of, cut_of, All}
use Rattle.items.specs.Joined.{joined, placed, Sound}

-- no whole item stands at the front: of its header, or of the value that the header announces, something is missing
abbrev pub NoItem : List ℕ → Type 0
NoItem s = length s < size_of s

-- what stands behind the last whole item
abbrev pub rest_of : List ℕ → List ℕ
rest_of p = drop (cut_of p).stop p

pub record Exact : Type 0 where
  -- a packet is its items, joined, and the rest
  pub all : (p : List ℕ) → Bytes p → p ≡ joined (cut_of p).items ++ rest_of p
  pub stop : (p : List ℕ) → Bytes p → (cut_of p).stop ≡ length (joined (cut_of p).items)
  -- each item has four bytes of name, a length of 32 bits and a value of that length; it stands behind the one before
  pub sound : (p : List ℕ) → Bytes p → All Sound (cut_of p).items
  pub places : (p : List ℕ) → Bytes p → (cut_of p).items ≡ placed 0 (cut_of p).items
  -- the rest begins no whole item: so it is padding, or an item that runs past the end
  pub rest : (p : List ℕ) → Bytes p → NoItem (rest_of p)
  -- and back: items, joined, and such a rest are cut into these items
  pub only : (is : List Item) (r : List ℕ) → All Sound is → NoItem r → cut_of (joined is ++ r) ≡ record { items = placed 0 is; stop = length (joined is) }
  -- seven bytes or fewer begin no item
  pub short : (r : List ℕ) → length r < 8 → NoItem r
