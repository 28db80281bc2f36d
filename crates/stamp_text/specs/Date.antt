-- A date and a time of day as the program `inspect` prints them: 2026-11-15 10:06:33.400 (01, "Clock and recordings"). Assumes nothing.
use Rattle.std.specs.Prelude.{ℕ, ◌+◌, ◌/◌, ◌%◌, List, [], ◌∷◌, ◌++◌}
use Rattle.line_text.specs.Decimal.{ascii, decimal}
use Rattle.calendar.specs.declared.Date.{Date}

-- a mark, and a number below 100 in two digits
unfoldable pub two_text : ℕ → ℕ → List ℕ
two_text mark n = mark ∷ (48 + n / 10 % 10) ∷ (48 + n % 10) ∷ []

-- a point, and a number below 1,000 in three digits
unfoldable pub millis_text : ℕ → List ℕ
millis_text n = 46 ∷ (48 + n / 100 % 10) ∷ (48 + n / 10 % 10) ∷ (48 + n % 10) ∷ []

unfoldable pub clock_text : ℕ → ℕ → ℕ → List ℕ
clock_text minute second millis = two_text 58 minute ++ (two_text 58 second ++ millis_text millis)

-- with a space before it
unfoldable pub date_text : Date → ℕ → List ℕ
date_text d millis =
    (ascii " " ++ decimal d.year)
    ++ (two_text 45 d.month ++ (two_text 45 d.day ++ (two_text 32 d.hour ++ clock_text d.minute d.second millis)))
