-- Dates of the Gregorian calendar, by counting days from 2000-01-01 on (002, 5.2.2 and annex B: a timestamp's seconds, less its UTCO, are
-- those of UTC since then). Assumes nothing.
use Rattle.std.specs.Prelude.{ℕ, zero, suc, ◌+◌, ◌-◌, ◌*◌, ◌%◌, ◌≤◌, ◌<◌, Bool, not, ◌&&◌, ◌||◌, ◌≡◌, [], ◌∷◌, eqb, get_or}
use Rattle.laws.specs.Pick.{pick}
use Rattle.calendar.specs.declared.Date.{Date}

-- every fourth year has a 29th of February, but of the years that end a century only every fourth has
unfoldable pub leap : ℕ → Bool
leap y = eqb (y % 4) 0 && (not (eqb (y % 100) 0) || eqb (y % 400) 0)

unfoldable pub year_days : ℕ → ℕ
year_days y = pick (leap y) 366 365

-- the days of month m, from 1 to 12, in a leap year or another
unfoldable pub month_days : Bool → ℕ → ℕ
month_days l m = get_or (0 ∷ 31 ∷ pick l 29 28 ∷ 31 ∷ 30 ∷ 31 ∷ 30 ∷ 31 ∷ 31 ∷ 30 ∷ 31 ∷ 30 ∷ 31 ∷ []) m 0

-- the days of the first n years from 2000 on, and of the first n months of a year
unfoldable pub days_of_years : ℕ → ℕ
days_of_years zero = 0
days_of_years (suc n) = days_of_years n + year_days (2000 + n)

unfoldable pub days_of_months : Bool → ℕ → ℕ
days_of_months l zero = 0
days_of_months l (suc n) = days_of_months l n + month_days l (suc n)

-- the days before a date, and the seconds before a date and time
unfoldable pub days_before : ℕ → ℕ → ℕ → ℕ
days_before year month day = days_of_years (year - 2000) + days_of_months (leap year) (month - 1) + (day - 1)

unfoldable pub seconds_before : Date → ℕ
seconds_before d = days_before d.year d.month d.day * 86400 + (d.hour * 3600 + d.minute * 60 + d.second)

-- the date and time of a count of seconds: one that the calendar has, with so many seconds before it
pub record DateOf (seconds : ℕ) (d : Date) : Type 0 where
  pub counted : seconds_before d ≡ seconds
  pub year : 2000 ≤ d.year
  pub month : (1 ≤ d.month) × (d.month ≤ 12)
  pub day : (1 ≤ d.day) × (d.day ≤ month_days (leap d.year) d.month)
  pub hour : d.hour < 24
  pub minute : d.minute < 60
  pub second : d.second < 60
