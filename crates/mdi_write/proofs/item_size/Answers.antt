-- `mdi_write::item_size` meets its contract. Assumes nothing.
use Rattle.mdi_write.proofs.Values.{size_none, size_some}
use Rattle.mdi_write.proofs.item_size.Goals as goal

pub returns-then-n-eq0 : goal.returns-then-n-eq0
returns-then-n-eq0 c = size_none _ c.if-n-eq0.true

pub returns-else-n-eq0 : goal.returns-else-n-eq0
returns-else-n-eq0 c = size_some _ c.requires c.if-n-eq0.false
