-- `mdi_write::put_count` meets its contract. Assumes nothing.
use Rattle.laws.proofs.Big.{bytes_length}
use lib.Dec.{lit<}
use native.Mathlib.Omega.{arith}
use Rattle.mdi_write.proofs.Values.{any_room, count_value, any_put}
use Rattle.mdi_write.proofs.put_count.Goals as goal

pub put_item-requires : goal.put_item-requires
put_item-requires c =
    let l = bytes_length 4 c.args.count in
    let q = any_room _ _ c.args.out.now _ (count_value _ _ c.write32.ensures.1) (omega arith) c.requires.1 in
    (c.requires.0, lit< tt, q.0, q.1)

pub returns : goal.returns
returns c = let both = any_put _ _ c.args.out.now _ _ _ _ (count_value _ _ c.write32.ensures.1) c.put_item.ensures.value c.put_item.ensures.out_after in record { value = both.0; out_after = both.1 }
