-- The next timestamp: 400 ms later with the same UTCO (01, "Clock and recordings"). Assumes nothing.
use Rattle.std.specs.Prelude.{ℕ, ◌+◌, ◌*◌, ◌/◌, ◌%◌, ◌^◌, List, [], ◌∷◌, ◌++◌, leb}
use Rattle.laws.specs.Refuse.{Test, test, refused_with}
use Rattle.clock.specs.declared.Stamp.{Stamp}
use Rattle.clock.specs.Answers.{Stamped}
use Rattle.clock.specs.Stamps.{field_tests, stamped}

-- milliseconds since the seconds began to count
unfoldable pub elapsed : Stamp → ℕ
elapsed t = t.seconds * 1000 + t.milliseconds

-- 400 ms later
unfoldable pub later : Stamp → Stamp
later t = let n = elapsed t + 400 in record { utco = t.utco; seconds = n / 1000; milliseconds = n % 1000 }

-- 18: the seconds of the next one do not fit 40 bits
unfoldable pub next_tests : Stamp → List Test
next_tests t = field_tests t ++ (test (leb (2 ^ 40) (later t).seconds) 18 ∷ [])

unfoldable pub next_for : Stamp → Stamped
next_for t = stamped (refused_with (next_tests t)) (later t)
