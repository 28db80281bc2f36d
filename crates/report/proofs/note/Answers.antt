-- `report::note` meets its contract. Assumes nothing.
use Rattle.report.proofs.Ways.{after_refused, after_read}
use Rattle.report.proofs.note.Goals as goal

pub returns-then-a-eq0 : goal.returns-then-a-eq0
returns-then-a-eq0 c = search after_read

pub returns-else-a-eq0 : goal.returns-else-a-eq0
returns-else-a-eq0 c = search after_refused
