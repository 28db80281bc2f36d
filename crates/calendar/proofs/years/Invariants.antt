-- What the loop of `years` keeps, and how it ends. Assumes nothing.
use Prim.Native.Nat.{◌+◌, ◌*◌, ◌≤◌}
use mathlib.Core.Path.{◌≡◌}
use Rattle.calendar.specs.Calendar.{year_days, days_of_years}
use Rattle.calendar.proofs.years.Given as goal

abbrev pub invariant-loop-size : goal.invariant-loop-size
invariant-loop-size l = (days_of_years l.count + l.rest ≡ l.days) × (l.count * 365 + l.rest ≤ l.days) × (l.size ≡ year_days (2000 + l.count)) × (365 ≤ l.size)

abbrev pub decreases-loop-size : goal.decreases-loop-size
decreases-loop-size l = l.rest
