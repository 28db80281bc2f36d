-- What a layout promises (01, "The description and the frame it cuts"): parts in order, each where the last ended, and every byte of the
-- frame in exactly one of the parts or in the padding. Assumes nothing.
use Rattle.std.specs.Prelude.{ℕ, ◌+◌, ◌≤◌, ◌<◌, Bool, ◌&&◌, List, [], ◌∷◌, ◌++◌, map, ◌≡◌, leb, ltb, length, get_or}
use Rattle.laws.specs.Pick.{pick}
use Rattle.places.specs.declared.Part.{Part}
use Rattle.laws.specs.Sum.{sum}
use Rattle.places.specs.Parts.{no_part}

-- a position lies in a part
abbrev pub lies : ℕ → Part → Bool
lies p x = leb x.at p && ltb p (x.at + x.len)

-- in how many of the parts a position lies
unfoldable pub covered : ℕ → List Part → ℕ
covered p [] = 0
covered p (x ∷ xs) = pick (lies p x) 1 0 + covered p xs

-- the parts stand one behind the other from one place to another
abbrev pub InOrder : ℕ → List Part → ℕ → Type 0
InOrder from [] to = from ≡ to
InOrder from (x ∷ xs) to = (x.at ≡ from) × InOrder (from + x.len) xs to

abbrev pub all_of : List Part → Part → List Part
all_of parts padding = parts ++ (padding ∷ [])

pub record Covers (capacity : ℕ) (parts : List Part) (padding : Part) : Type 0 where
  -- in order: the first at 0, each where the last ended, the padding last, up to the capacity
  pub order : InOrder 0 (all_of parts padding) capacity
  pub lengths : sum (map (λ x. x.len) (all_of parts padding)) ≡ capacity
  -- covering and disjoint: each byte lies in exactly one, and behind the capacity there is none
  pub once : (p : ℕ) → p < capacity → covered p (all_of parts padding) ≡ 1
  pub none : (p : ℕ) → capacity ≤ p → covered p (all_of parts padding) ≡ 0
  -- and a part ends before a later one begins
  pub apart : (i j : ℕ) → i < j → j < length (all_of parts padding)
      → (get_or (all_of parts padding) i no_part).at + (get_or (all_of parts padding) i no_part).len ≤ (get_or (all_of parts padding) j no_part).at
