-- `calendar::is_leap` meets its contract. Assumes nothing.
use Rattle.calendar.proofs.Days.{no_fourth, no_century, century}
use Rattle.calendar.proofs.is_leap.Goals as goal

pub returns-else-year-eq0 : goal.returns-else-year-eq0
returns-else-year-eq0 c = no_fourth _ c.if-year-eq0.false

pub returns-then-year-ne0 : goal.returns-then-year-ne0
returns-then-year-ne0 c = no_century _ c.if-year-eq0.true c.if-year-ne0.true

pub returns-else-year-ne0 : goal.returns-else-year-ne0
returns-else-year-ne0 c = century _ c.if-year-eq0.true c.if-year-ne0.false
