-- `mdi::bad_sdc` meets its contract. Assumes nothing.
use Rattle.mdi.proofs.Values.{sdc_at}
use Rattle.mdi.proofs.bad_sdc.Goals as goal

pub returns : goal.returns
returns c = search sdc_at
