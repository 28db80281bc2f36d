-- `mdi::bad_fac` meets its contract. Assumes nothing.
use Rattle.mdi.proofs.Values.{fac_at}
use Rattle.mdi.proofs.bad_fac.Goals as goal

pub returns : goal.returns
returns c = search fac_at
