-- `sdc::is_blank` meets its contract. Assumes nothing.
use Rattle.sdc.proofs.Ways.{blank_more, blank_done}
use Rattle.sdc.proofs.is_blank.Goals as goal

pub loop-i-preserved : goal.loop-i-preserved
loop-i-preserved c = search blank_more

pub returns : goal.returns
returns c = search blank_done
