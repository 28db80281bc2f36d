-- `sdc::over_long` meets its contract. Assumes nothing.
use Rattle.sdc.proofs.Ways.{long_is}
use Rattle.sdc.proofs.over_long.Goals as goal

pub returns : goal.returns
returns c = search long_is
