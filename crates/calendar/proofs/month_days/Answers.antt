-- `calendar::month_days` meets its contract: February of a long year, and the table. Assumes nothing.
use Rattle.calendar.specs.Calendar.{month_days}
use Rattle.calendar.proofs.Days.{month_is, february, long_month, short_month}
use Rattle.calendar.proofs.month_days.Goals as goal
use Rattle.calendar.proofs.month_days.Goals.{else-long-via-then-long+else-month-eq2, else-long-via-else-long}

pub returns-then-month-eq2 : goal.returns-then-month-eq2
returns-then-month-eq2 c = february _ _ c.if-long.true c.if-month-eq2.true

pub returns-else-long : goal.returns-else-long
unfolding month_days
returns-else-long c =
    let a = c.args in
    elim c.else-long.branch [
      | else-long-via-then-long+else-month-eq2 w ↦ month_is a.long a.month _ c.requires (long_month a.long a.month w.if-month-eq2.false)
      | else-long-via-else-long w ↦ month_is a.long a.month _ c.requires (short_month a.long a.month w.if-long.false)
    ]
