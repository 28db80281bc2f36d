-- Where a description stands in a case's body (docs/CASES.md, "Values that several calls share"). What lies past the end
-- reads as 0. Assumes nothing.
use Rattle.std.specs.Prelude.{ℕ, ◌+◌, min, List, [], ◌∷◌, get_or}
use Rattle.laws.specs.Big.{number_at}
use Rattle.description.specs.declared.Description.{Description}
use Rattle.description.specs.declared.Lengths.{Lengths}

-- the position n bytes after at; no body is as long as 1,048,576 bytes
abbrev pub on : ℕ → ℕ → ℕ
on at n = min (at + n) 1048576

unfoldable pub lengths_in : List ℕ → ℕ → Lengths
lengths_in body at = record { a = number_at 2 body at; b = number_at 2 body (on at 2) }

unfoldable pub description_in : List ℕ → ℕ → Description
description_in body at =
    record {
      level = record { a = get_or body at 0; b = get_or body (on at 1) 0 };
      count = get_or body (on at 2) 0;
      stream = lengths_in body (on at 3) ∷ lengths_in body (on at 7) ∷ lengths_in body (on at 11) ∷ lengths_in body (on at 15) ∷ [];
    }
