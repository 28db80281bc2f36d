-- `date_of` is the date of a count of seconds, and no other is. Assumes nothing.
use Prim.Native.Nat.{ℕ, zero, suc, ◌+◌, ◌-◌, ◌/◌, ◌≤◌, ◌<◌}
use mathlib.Core.Bool.{Bool, true, false}
use mathlib.Core.Path.{◌≡◌, refl}
use native.Mathlib.Omega.{arith}
use borrow.Author.Tests.{ltb-true, ltb-false}
use lib.Dec.{ltb, lit≤}
use Rattle.laws.specs.Pick.{pick}
use Rattle.calendar.specs.declared.Date.{Date}
use Rattle.calendar.specs.Calendar.{leap, year_days, month_days, days_of_years, days_of_months, DateOf}
use Rattle.calendar.specs.Dates.{Gone, years_gone, months_gone, date_in, date_of}
use Rattle.calendar.proofs.Days.{years_more, months_more, months_left}
use Rattle.calendar.proofs.Parts.{months_fit, put_together, one_date}

some_days : (y : ℕ) → 1 ≤ year_days y
unfolding year_days
some_days y = go (leap y)
  where
    go : (b : Bool) → 1 ≤ pick b 366 365
    go true = lit≤ tt
    go false = lit≤ tt

pub record Years (days : ℕ) (g : Gone) : Type 0 where
  pub all : days_of_years g.count + g.rest ≡ days
  pub part : g.rest < year_days (2000 + g.count)

years_gone_law : (k days count rest : ℕ) → rest ≤ k → days_of_years count + rest ≡ days → Years days (years_gone k count rest)
unfolding years_gone
years_gone_law zero days count rest h e = let s = some_days (2000 + count) in record { all = e; part = omega arith }
years_gone_law (suc k) days count rest h e = go (ltb rest size) refl (years_gone_law k days (count + 1) (rest - size))
  where
    size : ℕ
    size = year_days (2000 + count)

    go : (b : Bool) → ltb rest size ≡ b → (rest - size ≤ k → days_of_years (count + 1) + (rest - size) ≡ days → Years days (years_gone k (count + 1) (rest - size)))
        → Years days (pick b (record { count = count; rest = rest }) (years_gone k (count + 1) (rest - size)))
    go true p m = record { all = e; part = ltb-true _ _ p }
    go false p m =
        let l : size ≤ rest = ltb-false _ _ p in
        let s : 1 ≤ size = some_days (2000 + count) in
        m (omega arith) (years_more days count rest size e refl l)

pub record Months (l : Bool) (days : ℕ) (g : Gone) : Type 0 where
  pub all : days_of_months l g.count + g.rest ≡ days
  pub few : g.count < 12
  pub part : g.rest < month_days l (g.count + 1)

months_gone_law : (l : Bool) (k days count rest : ℕ) → days < days_of_months l 12 → count ≤ 11 → 12 ≤ k + count → days_of_months l count + rest ≡ days
    → Months l days (months_gone l k count rest)
unfolding months_gone
months_gone_law l zero days count rest d c h e = absurd (omega arith)
months_gone_law l (suc k) days count rest d c h e = go (ltb rest size) refl (λ i j. months_gone_law l k days (count + 1) (rest - size) d i (omega arith) j)
  where
    size : ℕ
    size = month_days l (count + 1)

    go : (b : Bool) → ltb rest size ≡ b → (count + 1 ≤ 11 → days_of_months l (count + 1) + (rest - size) ≡ days → Months l days (months_gone l k (count + 1) (rest - size)))
        → Months l days (pick b (record { count = count; rest = rest }) (months_gone l k (count + 1) (rest - size)))
    go true p m = record { all = e; few = omega arith; part = ltb-true _ _ p }
    go false p m =
        let g : size ≤ rest = ltb-false _ _ p in
        m (months_left l days count rest size e refl g d c) (months_more l days count rest size e refl g)

pub date_right : (seconds : ℕ) → DateOf seconds (date_of seconds)
unfolding date_of date_in days_of_years days_of_months
date_right seconds =
    let days = seconds / 86400 in
    let y = years_gone days 0 days in
    let p : Years days y = years_gone_law days days 0 days (omega arith) (omega arith) in
    let l = leap (2000 + y.count) in
    let m = months_gone l 12 0 y.rest in
    let f : y.rest < days_of_months l 12 = months_fit y.count y.rest l refl p.part in
    let q : Months l y.rest m = months_gone_law l 12 y.rest 0 y.rest f (lit≤ tt) (lit≤ tt) (omega arith) in
    put_together seconds y.count y.rest m.count m.rest l refl p.all q.all q.few q.part

-- so it is what `utc` answers
pub date_is : (seconds : ℕ) (d : Date) → DateOf seconds d → d ≡ date_of seconds
date_is seconds d h = one_date seconds d (date_of seconds) h (date_right seconds)
