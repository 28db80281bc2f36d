-- A timestamp as the program `inspect` prints it, with its date in UTC (01, "Clock and recordings"). Assumes nothing.
use Rattle.std.specs.Prelude.{ℕ, Option, None, Some, ◌-◌, List, ◌++◌, ltb}
use Rattle.laws.specs.Pick.{pick}
use Rattle.line_text.specs.Decimal.{ascii, decimal}
use Rattle.stamp_text.specs.Date.{date_text}
use Rattle.calendar.specs.declared.Date.{Date}
use Rattle.clock.specs.declared.Stamp.{Stamp}

-- the seconds since 2000 in UTC: a timestamp's less its UTCO
unfoldable pub since : Option Stamp → ℕ
since None = 0
since (Some s) = s.seconds - s.utco

-- the date in UTC, and none where there would be fewer than no seconds
unfoldable pub utc_text : Stamp → Date → List ℕ
utc_text s d = pick (ltb s.seconds s.utco) (ascii " before 2000") (date_text d s.milliseconds)

unfoldable pub stamp_text : Stamp → Date → List ℕ
stamp_text s d = utc_text s d ++ (ascii " seconds " ++ decimal s.seconds)

-- a timestamp whose date is d
unfoldable pub time_text : Option Stamp → Date → List ℕ
time_text None d = ascii " no timestamp"
time_text (Some s) d = stamp_text s d
