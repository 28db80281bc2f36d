-- `calendar::year_days` meets its contract. Assumes nothing.
use Rattle.calendar.proofs.Days.{days_leap, days_other}
use Rattle.calendar.proofs.year_days.Goals as goal

pub returns-then-is_leap : goal.returns-then-is_leap
returns-then-is_leap c = days_leap _ _ c.is_leap.ensures c.if-is_leap.true

pub returns-else-is_leap : goal.returns-else-is_leap
returns-else-is_leap c = days_other _ _ c.is_leap.ensures c.if-is_leap.false
