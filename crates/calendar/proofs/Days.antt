-- Counting days: leap years come round after 400 years, and a year or a month more adds its days. Assumes nothing.
use Prim.Native.Nat.{ℕ, zero, suc, ◌+◌, ◌-◌, ◌*◌, ◌/◌, ◌%◌, ◌≤◌, ◌<◌}
use mathlib.Core.Bool.{Bool, true, false, not}
use mathlib.Core.Path.{◌≡◌, refl, sym, ap, ◌∙◌}
use native.Mathlib.Nat.{div-add-mod', add-suc}
use native.Mathlib.Numerals.{add-one}
use native.Mathlib.Omega.{arith}
use borrow.Author.Tests.{eq-eqb, ne_eqb, leb-true, leb-false}
use lib.Dec.{eqb, leb}
use Rattle.laws.specs.Pick.{pick}
use Rattle.laws.proofs.Table.{below}
use Rattle.calendar.specs.Calendar.{leap, year_days, month_days, days_of_years, days_of_months}

-- ---- leap years

module _ (y : ℕ) where
  pub no_fourth : (y % 4 ≡ 0 → ⊥) → eqb (y % 4) 0 ≡ leap y
  unfolding leap
  no_fourth h = simp (ne_eqb _ _ h)

  pub no_century : y % 4 ≡ 0 → (y % 100 ≡ 0 → ⊥) → not (eqb (y % 100) 0) ≡ leap y
  unfolding leap
  no_century h k = simp (eq-eqb _ _ h, ne_eqb _ _ k)

  pub century : y % 4 ≡ 0 → y % 100 ≡ 0 → eqb (y % 400) 0 ≡ leap y
  unfolding leap
  century h k = simp (eq-eqb _ _ h, eq-eqb _ _ k)

  leap_round : leap (400 + y) ≡ leap y
  unfolding leap
  leap_round =
      let a : (400 + y) % 4 ≡ y % 4 = omega arith in
      let b : (400 + y) % 100 ≡ y % 100 = omega arith in
      let c : (400 + y) % 400 ≡ y % 400 = omega arith in
      rw (a, b, c)

  pub days_leap : (b : Bool) → b ≡ leap y → b ≡ true → (366 ≡ year_days y) × (365 ≤ 366) × (366 ≤ 366)
  unfolding year_days
  days_leap b e t = (rw (← e, t), omega arith, omega arith)

  pub days_other : (b : Bool) → b ≡ leap y → b ≡ false → (365 ≡ year_days y) × (365 ≤ 365) × (365 ≤ 366)
  unfolding year_days
  days_other b e t = (rw (← e, t), omega arith, omega arith)

  -- a year is its twelve months
  pub year_months : year_days y ≡ days_of_months (leap y) 12
  unfolding year_days days_of_months month_days
  year_months = twelve (leap y)
    where
      twelve : (b : Bool) → pick b 366 365 ≡ days_of_months b 12
      twelve true = refl
      twelve false = refl

-- ---- years

year_round : (n : ℕ) → year_days (2000 + (400 + n)) ≡ year_days (2000 + n)
unfolding year_days
year_round n =
    let e : 2000 + (400 + n) ≡ 400 + (2000 + n) = omega arith in
    ap (λ (k : ℕ). pick (leap k) 366 365) e ∙ ap (λ (b : Bool). pick b 366 365) (leap_round (2000 + n))

-- 400 years have 146,097 days, wherever they begin
four_hundred : days_of_years 400 ≡ 146097
unfolding days_of_years year_days leap
four_hundred = refl

span : (n : ℕ) → days_of_years (400 + n) ≡ 146097 + days_of_years n
unfolding days_of_years
span zero = four_hundred
span (suc n) = rw add-suc (let e = span n in let f = year_round n in omega arith)

pub spans : (k : ℕ) → days_of_years (k * 400) ≡ k * 146097
unfolding days_of_years
spans zero = refl
spans (suc k) =
    let e : suc k * 400 ≡ 400 + k * 400 = omega arith in
    ap days_of_years e ∙ span (k * 400) ∙ (let f = spans k in omega arith)

pub years_start : (days : ℕ) → days_of_years (days / 146097 * 400) + days % 146097 ≡ days
years_start days = ap (λ (n : ℕ). n + days % 146097) (spans (days / 146097)) ∙ div-add-mod' days 146097

pub years_more : (days count rest size : ℕ) → days_of_years count + rest ≡ days → size ≡ year_days (2000 + count) → size ≤ rest
    → days_of_years (count + 1) + (rest - size) ≡ days
unfolding days_of_years
years_more days count rest size e s h = rw add-one (omega arith)

-- ---- months

module _ (l : Bool) (days count rest size : ℕ) (e : days_of_months l count + rest ≡ days) (s : size ≡ month_days l (count + 1)) (h : size ≤ rest) where
  more : days_of_months l (count + 1) ≡ days_of_months l count + size
  unfolding days_of_months
  more = rw (s, add-one)

  pub months_more : days_of_months l (count + 1) + (rest - size) ≡ days
  months_more = let m = more in omega arith

  -- there are no more than twelve
  pub months_left : days < days_of_months l 12 → count ≤ 11 → count + 1 ≤ 11
  months_left d c = go (leb (count + 1) 11) refl
    where
      go : (b : Bool) → leb (count + 1) 11 ≡ b → count + 1 ≤ 11
      go true p = leb-true _ _ p
      go false p =
          let q : 12 ≡ count + 1 = omega (arith, leb-false (count + 1) 11 p) in
          let f : days < days_of_months l (count + 1) = rw (← q) d in
          absurd (let m = more in omega arith)

-- ---- one month's days, from the table of the short year and February's of the long one

-- below 256: computed for each
small : (l : Bool) (m : ℕ) → m < 13 → month_days l m % 256 ≡ month_days l m
unfolding month_days
small true m h = below (λ k. month_days true k % 256) (λ k. month_days true k) 13 tt m h
small false m h = below (λ k. month_days false k % 256) (λ k. month_days false k) 13 tt m h

pub month_is : (l : Bool) (m r : ℕ) → m ≤ 12 → r ≡ month_days l m → (r ≡ month_days l m) × (r < 256)
month_is l m r h e =
    let q : r % 256 ≡ r = ap (λ n. n % 256) e ∙ small l m (omega arith) ∙ sym e in
    (e, omega arith)

pub february : (l : Bool) (m : ℕ) → l ≡ true → m ≡ 2 → (29 ≡ month_days l m) × (29 < 256)
unfolding month_days
february l m e f = (rw (e, f) refl, omega arith)

-- but for February the two years have the same months
pub long_month : (l : Bool) (m : ℕ) → (m ≡ 2 → ⊥) → month_days false m ≡ month_days l m
unfolding month_days
long_month false m h = refl
long_month true zero h = refl
long_month true (suc zero) h = refl
long_month true (suc (suc zero)) h = absurd (h refl)
long_month true (suc (suc (suc m))) h = refl

pub short_month : (l : Bool) (m : ℕ) → l ≡ false → month_days false m ≡ month_days l m
short_month l m e = ap (λ (k : Bool). month_days k m) (sym e)
