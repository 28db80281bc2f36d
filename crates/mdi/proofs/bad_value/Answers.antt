-- `mdi::bad_value` meets its contract. Assumes nothing.
use Rattle.mdi.proofs.Values.{value_at}
use Rattle.mdi.proofs.bad_value.Goals as goal

pub returns : goal.returns
returns c = search value_at
