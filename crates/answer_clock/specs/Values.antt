-- Where a timestamp stands in a case's body (docs/CASES.md, "Values that several calls share"). What lies past the end
-- reads as 0. Assumes nothing.
use Rattle.std.specs.Prelude.{ℕ, ◌+◌, min, List}
use Rattle.laws.specs.Big.{number_at}
use Rattle.clock.specs.declared.Stamp.{Stamp}

-- the position n bytes after at; no body is as long as 1,048,576 bytes
abbrev pub on : ℕ → ℕ → ℕ
on at n = min (at + n) 1048576

unfoldable pub stamp_in : List ℕ → ℕ → Stamp
stamp_in body at = record { utco = number_at 2 body at; seconds = number_at 8 body (on at 2); milliseconds = number_at 2 body (on at 10) }
