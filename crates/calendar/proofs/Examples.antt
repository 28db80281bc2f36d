-- Days that everybody can look up, by computation. Assumes nothing.
use mathlib.Core.Bool.{true, false}
use mathlib.Core.Path.{◌≡◌, refl}
use Rattle.calendar.specs.Calendar.{leap, year_days, month_days, days_of_years, days_of_months, days_before, seconds_before}

pub leap_years : (leap 2000 ≡ true) × (leap 2024 ≡ true) × (leap 2100 ≡ false) × (leap 2400 ≡ true)
unfolding leap
leap_years = (refl, refl, refl, refl)

-- 2000-03-01 came after 60 days, 2100-03-01 after 36,584, 2026-11-15 after 9,815
pub days : (days_before 2000 3 1 ≡ 60) × (days_before 2100 3 1 ≡ 36584) × (days_before 2026 11 15 ≡ 9815)
unfolding days_before days_of_years days_of_months month_days year_days leap
days = (refl, refl, refl)

pub noon : seconds_before (record { year = 2000; month = 1; day = 2; hour = 12; minute = 30; second = 5 }) ≡ 131405
unfolding seconds_before days_before days_of_years days_of_months month_days year_days leap
noon = refl
