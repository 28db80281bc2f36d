-- `mdi_write::is_large` meets its contract. Assumes nothing.
use Rattle.mdi_write.proofs.Numbers.{large_is}
use Rattle.mdi_write.proofs.is_large.Goals as goal

pub returns : goal.returns
returns c = search large_is
