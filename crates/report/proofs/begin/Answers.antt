-- `report::begin` meets its contract. Assumes nothing.
use Rattle.report.proofs.Ways.{begin_done}
use Rattle.report.proofs.begin.Goals as goal

pub returns : goal.returns
returns c = search begin_done
