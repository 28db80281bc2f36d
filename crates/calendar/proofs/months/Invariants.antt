-- What the loop of `months` keeps, and how it ends. Assumes nothing.
use Prim.Native.Nat.{◌+◌, ◌-◌, ◌≤◌, ◌<◌}
use mathlib.Core.Path.{◌≡◌}
use Rattle.calendar.specs.Calendar.{month_days, days_of_months}
use Rattle.calendar.proofs.months.Given as goal

abbrev pub invariant-loop-size : goal.invariant-loop-size
invariant-loop-size l = (days_of_months l.long l.count + l.rest ≡ l.days) × (l.count ≤ 11) × (l.size ≡ month_days l.long (l.count + 1)) × (l.size < 256)

abbrev pub decreases-loop-size : goal.decreases-loop-size
decreases-loop-size l = 12 - l.count
