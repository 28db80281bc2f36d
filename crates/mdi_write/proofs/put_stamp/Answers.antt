-- `mdi_write::put_stamp` meets its contract. Assumes nothing.
use Rattle.clock.proofs.Back.{value_length_law}
use lib.Dec.{lit<}
use native.Mathlib.Omega.{arith}
use Rattle.mdi_write.proofs.Values.{any_room, stamp_value, any_put}
use Rattle.mdi_write.proofs.put_stamp.Goals as goal

pub put_item-requires : goal.put_item-requires
put_item-requires c =
    let l = value_length_law c.args.t in
    let q = any_room _ _ c.args.out.now _ (stamp_value _ c.args.t c.requires.1 c.encode.ensures.memory) (omega arith) c.requires.2 in
    (c.requires.0, lit< tt, q.0, q.1)

pub returns : goal.returns
returns c = let both = any_put _ _ c.args.out.now _ _ _ _ (stamp_value _ c.args.t c.requires.1 c.encode.ensures.memory) c.put_item.ensures.value c.put_item.ensures.out_after in record { value = both.0; out_after = both.1 }
