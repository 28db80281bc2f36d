-- The date of a count of seconds as a function, for definitions that name it: the one date that Calendar.antt's `DateOf` allows
-- (proofs/Dates.antt). Assumes nothing.
use Rattle.std.specs.Prelude.{ℕ, zero, suc, ◌+◌, ◌-◌, ◌/◌, ◌%◌, Bool, ltb}
use Rattle.laws.specs.Pick.{pick}
use Rattle.calendar.specs.Calendar.{leap, year_days, month_days}
use Rattle.calendar.specs.declared.Date.{Date}

-- whole years or months that went by, and the days left of the one that did not
pub record Gone : Type 0 where
  pub count : ℕ
  pub rest : ℕ

-- years and days, or months and days of a year, as long as the next is whole. The first argument bounds the steps
unfoldable pub years_gone : ℕ → ℕ → ℕ → Gone
years_gone zero count rest = record { count = count; rest = rest }
years_gone (suc k) count rest =
    pick (ltb rest (year_days (2000 + count))) (record { count = count; rest = rest }) (years_gone k (count + 1) (rest - year_days (2000 + count)))

unfoldable pub months_gone : Bool → ℕ → ℕ → ℕ → Gone
months_gone l zero count rest = record { count = count; rest = rest }
months_gone l (suc k) count rest =
    pick (ltb rest (month_days l (count + 1))) (record { count = count; rest = rest }) (months_gone l k (count + 1) (rest - month_days l (count + 1)))

-- the time of a day, in a year and a month that went by
unfoldable pub date_in : Gone → Gone → ℕ → Date
date_in y m time = record {
  year = 2000 + y.count;
  month = m.count + 1;
  day = m.rest + 1;
  hour = time / 3600;
  minute = time / 60 % 60;
  second = time % 60;
}

unfoldable pub date_of : ℕ → Date
date_of seconds =
    let y = years_gone (seconds / 86400) 0 (seconds / 86400) in
    date_in y (months_gone (leap (2000 + y.count)) 12 0 y.rest) (seconds % 86400)
