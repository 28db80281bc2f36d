-- What a call says (docs/CASES.md, "An answer"): its number, its place, and its values one behind the other. Assumes nothing.
use Rattle.std.specs.Prelude.{ℕ, ◌+◌, ◌%◌, set, replicate}
use Rattle.saying.specs.declared.Said.{Said}

-- no values yet; an answer has room for 256
unfoldable pub begun : ℕ → ℕ → Said
begun number place = record { number = number; place = place; count = 0; value = replicate 256 0 }

-- one value more; a 257th would take the place of the first
unfoldable pub with : Said → ℕ → Said
with s x = record { number = s.number; place = s.place; count = s.count % 256 + 1; value = set s.value (s.count % 256) x }
