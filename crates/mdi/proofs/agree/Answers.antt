-- `mdi::agree` meets its contract. Assumes nothing.
use Rattle.mdi.proofs.Values.{agree_is}
use Rattle.mdi.proofs.agree.Goals as goal

pub returns : goal.returns
returns c = search agree_is
