-- The ways through the code, in its own words. Assumes nothing.
use Prim.Native.Nat.{ℕ, ◌-◌, ◌≤◌, ◌<◌}
use mathlib.Core.List.{List}
use mathlib.Core.Path.{◌≡◌, refl, subst}
use borrow.Author.Tests.{lt-ltb, le-ltb}
use Rattle.std.specs.Prelude.{Option, None, Some}
use Rattle.moves.specs.Moves.{Puts}
use Rattle.line_text.specs.Decimal.{ascii}
use Rattle.stamp_text.specs.Date.{date_text}
use Rattle.calendar.specs.Calendar.{DateOf}
use Rattle.calendar.specs.declared.Date.{Date}
use Rattle.clock.specs.declared.Stamp.{Stamp}
use Rattle.stamp_text.specs.Stamp.{since, utc_text, stamp_text, time_text}

pub since_none : (t : Option Stamp) → t ≡ None → 0 ≡ since t
unfolding since
since_none t e = rw e refl

pub since_given : (t : Option Stamp) (s : Stamp) (r : ℕ) → t ≡ Some s → r ≡ s.seconds - s.utco → r ≡ since t
unfolding since
since_given t s r e h = rw e h

module _ {d e : List ℕ} {at n : ℕ} where
  pub utc_none : (s : Stamp) (x : Date) → s.seconds < s.utco → Puts d at (ascii " before 2000") e n → Puts d at (utc_text s x) e n
  unfolding utc_text
  utc_none s x h p = rw (lt-ltb _ _ h) p

  pub utc_some : (s : Stamp) (x : Date) → s.utco ≤ s.seconds → Puts d at (date_text x s.milliseconds) e n → Puts d at (utc_text s x) e n
  unfolding utc_text
  utc_some s x h p = rw (le-ltb _ _ h) p

  pub time_none : (t : Option Stamp) (x : Date) → t ≡ None → Puts d at (ascii " no timestamp") e n → Puts d at (time_text t x) e n
  unfolding time_text
  time_none t x h p = rw h p

  pub time_given : (t : Option Stamp) (x : Date) (s : Stamp) → t ≡ Some s → Puts d at (stamp_text s x) e n → Puts d at (time_text t x) e n
  unfolding time_text
  time_given t x s h p = rw h p

-- the date of seconds that are those of a timestamp
pub dated_by : (t : Option Stamp) (s : ℕ) (x : Date) → s ≡ since t → DateOf s x → DateOf (since t) x
dated_by t s x e h = subst (λ (k : ℕ). DateOf k x) e h
