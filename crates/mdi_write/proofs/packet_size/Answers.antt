-- `mdi_write::packet_size` meets its contract. Assumes nothing.
use Rattle.mdi_write.proofs.Values.{size_sum}
use Rattle.mdi_write.proofs.packet_size.Goals as goal

pub returns : goal.returns
returns c = size_sum c.args.r _ _ _ _ _ _ _ _ _ _ _ c.value_length.ensures.0 c.item_size.ensures.0 c.item_size-2.ensures.0 c.item_size-3.ensures.0 c.item_size-4.ensures.0 c.item_size-5.ensures.0 c.time_size.ensures.0
