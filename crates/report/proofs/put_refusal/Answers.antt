-- `report::put_refusal` meets its contract. Assumes nothing.
use Rattle.report.proofs.Ways.{refusal_none, refusal_some}
use Rattle.report.proofs.put_refusal.Goals as goal

pub returns-then-e-eq0 : goal.returns-then-e-eq0
returns-then-e-eq0 c = search refusal_none

pub returns : goal.returns
returns c = search refusal_some
