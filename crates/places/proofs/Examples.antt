-- The capacities at both ends, by computation; 01's marked examples are in crates/acceptance. Assumes nothing.
use mathlib.Core.Path.{◌≡◌, refl}
use mathlib.Core.List.{[], ◌∷◌}
use Rattle.description.specs.declared.Lengths.{Lengths}
use Rattle.description.specs.declared.Description.{Description}
use Rattle.description.specs.Bytes.{no_stream}
use Rattle.description.specs.WellFormed.{is_too_large, ill_formed}
use Rattle.description.specs.Answers.{handed}
use Rattle.places.specs.Parts.{lengths_in, used_by, padding_of, layout_tests, layout_for}

-- capacities: 0 and 32,761 are refused, 1 byte and 32,760 bytes may be full
abbrev one : Description
one = record { level = record { a = 0; b = 0 }; count = 1; stream = record { a = 0; b = 1 } ∷ no_stream ∷ no_stream ∷ no_stream ∷ [] }

abbrev most : Lengths
most = record { a = 4095; b = 4095 }

abbrev full : Description
full = record { level = record { a = 3; b = 3 }; count = 4; stream = most ∷ most ∷ most ∷ most ∷ [] }

pub ends : ((layout_for 0 one 0).number ≡ 1) × ((layout_for 1 one 0).number ≡ 0) × ((layout_for 32760 full 0).number ≡ 0)
    × ((layout_for 32760 full 0).padding ≡ record { at = 32760; len = 0 }) × ((layout_for 32761 full 0).number ≡ 1)
unfolding layout_for layout_tests handed is_too_large ill_formed used_by lengths_in padding_of
ends = (refl, refl, refl, refl, refl)
