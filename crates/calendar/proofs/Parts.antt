-- A date and time put together from its parts, and that no count of seconds has two. Assumes nothing.
use Prim.Native.Nat.{ℕ, zero, suc, ◌+◌, ◌-◌, ◌*◌, ◌/◌, ◌%◌, ◌≤◌, ◌<◌}
use mathlib.Core.Bool.{Bool, true, false}
use mathlib.Core.Path.{◌≡◌, refl, sym, ap, ap₂, ◌∙◌}
use native.Mathlib.Nat.{div-add-mod', div-div-eq-div-mul, zero-add, suc-add, le_refl}
use native.Mathlib.Omega.{arith}
use borrow.Author.Tests.{leb-true, leb-false}
use lib.Dec.{leb}
use Rattle.calendar.specs.declared.Date.{Date}
use Rattle.calendar.specs.Calendar.{leap, year_days, month_days, days_of_years, days_of_months, days_before, seconds_before, DateOf}
use Rattle.calendar.proofs.Days.{year_months}

-- hours, minutes and seconds of a day
day_time : (t : ℕ) → t / 3600 * 3600 + t / 60 % 60 * 60 + t % 60 ≡ t
day_time t = omega (arith, div-div-eq-div-mul t 60 60)

pub months_fit : (years rest : ℕ) (l : Bool) → l ≡ leap (2000 + years) → rest < year_days (2000 + years) → rest < days_of_months l 12
months_fit years rest l e h = rw (e, ← (year_months (2000 + years))) h

module _ (seconds years rest months days : ℕ) (l : Bool) (el : l ≡ leap (2000 + years))
    (y : days_of_years years + rest ≡ seconds / 86400) (m : days_of_months l months + days ≡ rest) where
  pub put_together : months < 12 → days < month_days l (months + 1)
      → DateOf seconds
      (record {
        year = 2000 + years;
        month = months + 1;
        day = days + 1;
        hour = seconds % 86400 / 3600;
        minute = seconds % 86400 / 60 % 60;
        second = seconds % 86400 % 60;
      })
  unfolding seconds_before days_before
  put_together h d =
      let t = seconds % 86400 in
      let a : 2000 + years - 2000 ≡ years = omega arith in
      let b : months + 1 - 1 ≡ months = omega arith in
      let c : days + 1 - 1 ≡ days = omega arith in
      let n : days_of_years (2000 + years - 2000) + days_of_months (leap (2000 + years)) (months + 1 - 1) + (days + 1 - 1) ≡ seconds / 86400 =
      rw (a, b, c, ← el) (omega arith) in
      record {
        counted = ap₂ (λ (i j : ℕ). i * 86400 + j) n (day_time t) ∙ div-add-mod' seconds 86400;
        year = omega arith;
        month = (omega arith, omega arith);
        day = (omega arith, rw (← el) (omega arith));
        hour = omega arith;
        minute = omega arith;
        second = omega arith;
      }

-- ---- only one

-- sums that grow: where a place lies between two neighbours, it lies between no others
module _ (f : ℕ → ℕ) (grows : (n : ℕ) → f n ≤ f (suc n)) where
  climb : (n k : ℕ) → f n ≤ f (k + n)
  climb n zero = rw zero-add (le_refl (f n))
  climb n (suc k) = let h = climb n k in let g = grows (k + n) in rw suc-add (omega arith)

  pub further : (n m : ℕ) → n ≤ m → f n ≤ f m
  further n m h = let e : m - n + n ≡ m = omega arith in rw e at (climb n (m - n))

  pub one_place : (n m x : ℕ) → f n ≤ x → x < f (suc n) → f m ≤ x → x < f (suc m) → n ≡ m
  one_place n m x a b c d = go (leb n m) refl (leb m n) refl
    where
      go : (p : Bool) → leb n m ≡ p → (q : Bool) → leb m n ≡ q → n ≡ m
      go true e true g = omega (arith, leb-true n m e, leb-true m n g)
      go false e q g = let h = further (suc m) n (leb-false n m e) in absurd (omega arith)
      go true e false g = let h = further (suc n) m (leb-false m n g) in absurd (omega arith)

years_grow : (n : ℕ) → days_of_years n ≤ days_of_years (suc n)
unfolding days_of_years
years_grow n = omega arith

months_grow : (l : Bool) (n : ℕ) → days_of_months l n ≤ days_of_months l (suc n)
unfolding days_of_months
months_grow l n = omega arith

-- a day of a year lies before the next year
in_year : (y m d : ℕ) → m < 12 → d < month_days (leap (2000 + y)) (suc m)
    → days_of_years y + (days_of_months (leap (2000 + y)) m + d) < days_of_years (suc y)
unfolding days_of_years days_of_months
in_year y m d h k =
    let l = leap (2000 + y) in
    let e : year_days (2000 + y) ≡ days_of_months l 12 = year_months (2000 + y) in
    let g : days_of_months l (suc m) ≤ days_of_months l 12 = further (days_of_months l) (months_grow l) (suc m) 12 h in
    omega arith

same_days : (y v m w d e : ℕ) → m < 12 → w < 12 → d < month_days (leap (2000 + y)) (suc m) → e < month_days (leap (2000 + v)) (suc w)
    → days_of_years y + (days_of_months (leap (2000 + y)) m + d) ≡ days_of_years v + (days_of_months (leap (2000 + v)) w + e)
    → (y ≡ v) × (m ≡ w) × (d ≡ e)
unfolding days_of_months
same_days y v m w d e hm hw hd he q =
    let p : y ≡ v = one_place days_of_years years_grow y v _ (omega arith) (in_year y m d hm hd) (omega arith) (rw q (in_year v w e hw he)) in
    let l = leap (2000 + y) in
    let k : leap (2000 + v) ≡ l = ap (λ (n : ℕ). leap (2000 + n)) (sym p) in
    let he' : e < month_days l (suc w) = rw (← k) he in
    let r : days_of_months l m + d ≡ days_of_months l w + e =
    (let z : days_of_years y + (days_of_months l m + d) ≡ days_of_years y + (days_of_months l w + e) = q ∙ rw (k, ← p) in omega arith) in
    let u : m ≡ w = one_place (days_of_months l) (months_grow l) m w (days_of_months l m + d) (omega arith) (omega arith) (omega arith) (omega arith) in
    (p, u, (let z : days_of_months l m ≡ days_of_months l w = ap (days_of_months l) u in omega arith))

same_time : (h i m j s k : ℕ) → m < 60 → j < 60 → s < 60 → k < 60 → h * 3600 + m * 60 + s ≡ i * 3600 + j * 60 + k → (h ≡ i) × (m ≡ j) × (s ≡ k)
same_time h i m j s k a b c d e = (omega arith, omega arith, omega arith)

-- the parts of a date, counted from 0
record Counted (seconds : ℕ) (d : Date) : Type 0 where
  days : days_of_years (d.year - 2000) + (days_of_months (leap (2000 + (d.year - 2000))) (d.month - 1) + (d.day - 1)) ≡ seconds / 86400
  time : d.hour * 3600 + d.minute * 60 + d.second ≡ seconds % 86400
  month : d.month - 1 < 12
  day : d.day - 1 < month_days (leap (2000 + (d.year - 2000))) (suc (d.month - 1))

counted : (seconds : ℕ) (d : Date) → DateOf seconds d → Counted seconds d
unfolding seconds_before days_before
counted seconds d p =
    let y : 2000 + (d.year - 2000) ≡ d.year = omega (arith, p.year) in
    let m : suc (d.month - 1) ≡ d.month = omega (arith, p.month.0) in
    let n = days_of_years (d.year - 2000) + days_of_months (leap d.year) (d.month - 1) + (d.day - 1) in
    let t = d.hour * 3600 + d.minute * 60 + d.second in
    let c : n * 86400 + t ≡ seconds = p.counted in
    let l : t < 86400 = omega (arith, p.hour, p.minute, p.second) in
    let q : n ≡ seconds / 86400 = omega arith in
    record {
      days = rw y (omega arith);
      time = omega arith;
      month = omega (arith, p.month.1);
      day = rw (y, m) (omega (arith, p.day.0, p.day.1));
    }

by_fields : (a b c d e f u v w x y z : ℕ) → a ≡ u → b ≡ v → c ≡ w → d ≡ x → e ≡ y → f ≡ z
    → ◌≡◌ {A = Date} (record { year = a; month = b; day = c; hour = d; minute = e; second = f })
    (record { year = u; month = v; day = w; hour = x; minute = y; second = z })
by_fields a b c d e f u v w x y z p q r s t o = cc

-- two dates with the same seconds before them are the same
pub one_date : (seconds : ℕ) (d e : Date) → DateOf seconds d → DateOf seconds e → d ≡ e
one_date seconds d e p q =
    let a = counted seconds d p in
    let b = counted seconds e q in
    let s = same_days (d.year - 2000) (e.year - 2000) (d.month - 1) (e.month - 1) (d.day - 1) (e.day - 1) a.month b.month a.day b.day (a.days ∙ sym b.days) in
    let t = same_time d.hour e.hour d.minute e.minute d.second e.second p.minute q.minute p.second q.second (a.time ∙ sym b.time) in
    let y : d.year ≡ e.year = omega (arith, p.year, q.year, s.0) in
    let m : d.month ≡ e.month = omega (arith, p.month.0, q.month.0, s.1) in
    let n : d.day ≡ e.day = omega (arith, p.day.0, q.day.0, s.2) in
    by_fields _ _ _ _ _ _ _ _ _ _ _ _ y m n t.0 t.1 t.2
