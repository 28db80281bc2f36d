-- Bit layouts, as the tables of the standards have them: fields one behind the other, the first the most significant (000, 3.4).
-- ws has the widths in the table's order. Assumes nothing.
use Rattle.std.specs.Prelude.{ℕ, ◌+◌, ◌*◌, ◌/◌, ◌%◌, ◌^◌, ◌<◌, List, [], ◌∷◌}

-- the bits of all fields together
abbrev pub total : List ℕ → ℕ
total [] = 0
total (w ∷ ws) = w + total ws

-- the fields of a number
abbrev pub fields_of : List ℕ → ℕ → List ℕ
fields_of [] x = []
fields_of (w ∷ ws) x = x / 2 ^ total ws % 2 ^ w ∷ fields_of ws x

-- the number that has these fields
abbrev pub number_of : List ℕ → List ℕ → ℕ
number_of [] vs = 0
number_of (w ∷ ws) [] = 0
number_of (w ∷ ws) (v ∷ vs) = v * 2 ^ total ws + number_of ws vs

-- as many fields as widths, each with room in its own
abbrev pub Fit : List ℕ → List ℕ → Type 0
Fit [] [] = Unit {0}
Fit [] (v ∷ vs) = ⊥
Fit (w ∷ ws) [] = ⊥
Fit (w ∷ ws) (v ∷ vs) = (v < 2 ^ w) × Fit ws vs
