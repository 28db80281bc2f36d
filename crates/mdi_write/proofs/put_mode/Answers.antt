-- `mdi_write::put_mode` meets its contract. Assumes nothing.
use lib.Dec.{lit≤, lit<}
use Rattle.mdi_write.proofs.put_mode.Goals as goal

pub put_item-requires : goal.put_item-requires
put_item-requires c = (c.requires.0, lit< tt, lit≤ tt, c.requires.1)

pub returns : goal.returns
returns c = record { value = c.put_item.ensures.value; out_after = c.put_item.ensures.out_after }
