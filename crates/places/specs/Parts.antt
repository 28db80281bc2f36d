-- The layout of the frame that a description cuts (01, "The description and the frame it cuts"; 000, 6.2.3): part A of streams 0, 1, ..,
-- then part B of streams 0, 1, .., then padding to the capacity. Assumes nothing.
use Rattle.std.specs.Prelude.{ℕ, ◌+◌, ◌-◌, Bool, Result, Ok, Err, false, ◌||◌, List, [], ◌∷◌, ◌++◌, map, eqb, ltb, replicate}
use Rattle.laws.specs.Pick.{pick}
use Rattle.laws.specs.Sum.{sum}
use Rattle.laws.specs.Refuse.{Test, test, refused_with}
use Rattle.description.specs.declared.Description.{Description}
use Rattle.places.specs.declared.Part.{Part}
use Rattle.places.specs.declared.Placement.{Placement}
use Rattle.refusal.specs.declared.Refusal.{Refusal}
use Rattle.refusal.specs.Refusal.{number_of}
use Rattle.description.specs.Answers.{handed}

-- the lengths of the parts in the frame's order; the slots behind the streams have length 0
unfoldable pub lengths_in : Description → List ℕ
lengths_in d = map (λ l. l.a) d.stream ++ map (λ l. l.b) d.stream

-- the bytes of all streams
unfoldable pub used_by : Description → ℕ
used_by d = sum (lengths_in d)

-- parts of these lengths from a place on, each where the last ended
unfoldable pub parts_from : ℕ → List ℕ → List Part
parts_from at [] = []
parts_from at (n ∷ ns) = record { at = at; len = n } ∷ parts_from (at + n) ns

unfoldable pub parts_of : Description → List Part
parts_of d = parts_from 0 (lengths_in d)

unfoldable pub padding_of : ℕ → Description → Part
padding_of capacity d = record { at = used_by d; len = capacity - used_by d }

-- a capacity that is not from 1 to 32,760
abbrev pub bad_capacity : ℕ → Bool
bad_capacity capacity = eqb capacity 0 || ltb 32760 capacity

unfoldable pub layout_tests : ℕ → Description → ℕ → List Test
layout_tests capacity d mode = test (bad_capacity capacity) 1 ∷ handed false d mode (test (ltb capacity (used_by d)) 12 ∷ [])

abbrev pub no_part : Part
no_part = record { at = 0; len = 0 }

-- the answer of `layout` in 01's terms: its number, and the layout, all zeros where it is refused
pub record Places : Type 0 where
  pub number : ℕ
  pub part : List Part
  pub padding : Part

abbrev pub places_in : Result Placement Refusal → Places
places_in (Ok l) = record { number = 0; part = l.part; padding = l.padding }
places_in (Err r) = record { number = number_of r; part = replicate 8 no_part; padding = no_part }

unfoldable pub layout_for : ℕ → Description → ℕ → Places
layout_for capacity d mode =
    pick (eqb (refused_with (layout_tests capacity d mode)) 0)
    (record { number = 0; part = parts_of d; padding = padding_of capacity d })
    (record { number = refused_with (layout_tests capacity d mode); part = replicate 8 no_part; padding = no_part })
