-- TAG items (01, "MDI packet"; 002, clause 5): a packet as the list of its items. Assumes nothing.
use Rattle.std.specs.Prelude.{ℕ, zero, suc, ◌+◌, ◌/◌, Bool, true, false, ◌&&◌, ◌||◌, ◌≡◌, List, [], ◌∷◌, leb, eqb, length, take, drop}
use Rattle.laws.specs.Big.{number_at}
use Rattle.laws.specs.Pick.{pick}
use Rattle.items.specs.declared.Spot.{Spot}
use Rattle.items.specs.declared.Walked.{Walked}

-- an item: the offset of its first byte in the packet, its four bytes of name, its length in bits, its value
pub record Item : Type 0 where
  pub place : ℕ
  pub name : List ℕ
  pub bits : ℕ
  pub value : List ℕ

-- the whole items, and where they stop: behind them stand padding (under 8 bytes) or an item that runs past the end
pub record Cut : Type 0 where
  pub items : List Item
  pub stop : ℕ

-- the whole bytes that so many bits take
abbrev pub bytes_for : ℕ → ℕ
bytes_for bits = (bits + 7) / 8

-- ---- of bytes that begin with an item: its length in bits (0 where the length is not all there), its bytes in all, and the item
unfoldable pub bits_at : List ℕ → ℕ
bits_at s = number_at 4 s 4

unfoldable pub size_of : List ℕ → ℕ
size_of s = 8 + bytes_for (bits_at s)

unfoldable pub item_at : List ℕ → ℕ → Item
item_at s at = record { place = at; name = take 4 s; bits = bits_at s; value = take (bytes_for (bits_at s)) (drop 8 s) }

-- ---- all items
unfoldable pub no_item : ℕ → Cut
no_item at = record { items = []; stop = at }

unfoldable pub item_then : Item → Cut → Cut
item_then i c = record { items = i ∷ c.items; stop = c.stop }

-- the items of s, which stands at the offset at; its first bytes, as many as inside says, belong to the item before
unfoldable pub cut_after : ℕ → List ℕ → ℕ → Cut
cut_after inside [] at = no_item at
cut_after (suc inside) (x ∷ s) at = cut_after inside s (at + 1)
cut_after zero (x ∷ s) at =
    pick (leb (size_of (x ∷ s)) (length (x ∷ s)))
    (item_then (item_at (x ∷ s) at) (cut_after (7 + bytes_for (bits_at (x ∷ s))) s (at + 1)))
    (no_item at)

unfoldable pub cut_from : List ℕ → ℕ → Cut
cut_from s at = cut_after 0 s at

unfoldable pub cut_of : List ℕ → Cut
cut_of packet = cut_from packet 0

-- ---- what is asked of a list of items

pub data Found : Type 0 where
  none : Found
  some : Item → Found

-- names are the same byte by byte
unfoldable pub same_name : List ℕ → List ℕ → Bool
same_name [] [] = true
same_name [] (y ∷ ys) = false
same_name (x ∷ xs) [] = false
same_name (x ∷ xs) (y ∷ ys) = eqb x y && same_name xs ys

-- the first item of a name
unfoldable pub find : List ℕ → List Item → Found
find n [] = none
find n (i ∷ is) = pick (same_name n i.name) (some i) (find n is)

-- a name is one of those that came
unfoldable pub among : List ℕ → List (List ℕ) → Bool
among n [] = false
among n (m ∷ ms) = same_name n m || among n ms

-- the first item whose name came earlier, with the names that came before these items
unfoldable pub again : List (List ℕ) → List Item → Found
again came [] = none
again came (i ∷ is) = pick (among i.name came) (some i) (again (i.name ∷ came) is)

unfoldable pub twice : List Item → Found
twice is = again [] is

-- ---- what is found
unfoldable pub is_there : Found → Bool
is_there none = false
is_there (some i) = true

-- its place, 0 where there is none
unfoldable pub place_of : Found → ℕ
place_of none = 0
place_of (some i) = i.place

-- its value, empty where there is none
unfoldable pub value_of : Found → List ℕ
value_of none = []
value_of (some i) = i.value

-- ---- what the calls answer
-- where the value of an item starts, and its bits; 0 and 0 where there is none
unfoldable pub spot_of : Found → Spot
spot_of none = record { start = 0; bits = 0 }
spot_of (some i) = record { start = i.place + 8; bits = i.bits }

-- the bytes of a whole item at an offset, 0 where there is none
unfoldable pub size_at : List ℕ → ℕ → ℕ
size_at s at = pick (leb (size_of (drop at s)) (length (drop at s))) (size_of (drop at s)) 0

-- where the items stop, and how many they are
unfoldable pub walked_of : Cut → Walked
walked_of c = record { stop = c.stop; count = length c.items }

-- the bytes that a spot shows, empty where it is not within the packet
unfoldable pub shown_at : List ℕ → Spot → List ℕ
shown_at s x = pick (leb (x.start + bytes_for x.bits) (length s)) (take (bytes_for x.bits) (drop x.start s)) []

-- ---- the meaning
-- a fact of each item of a list
abbrev pub All : (Item → Type 0) → List Item → Type 0
All P [] = Unit {0}
All P (i ∷ is) = P i × All P is

-- no name stands twice: every item has another name than every item behind it
abbrev pub Once : List Item → Type 0
Once [] = Unit {0}
Once (i ∷ is) = All (λ j. i.name ≡ j.name → ⊥) is × Once is
