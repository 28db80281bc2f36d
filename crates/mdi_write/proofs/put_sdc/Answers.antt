-- `mdi_write::put_sdc` meets its contract. Assumes nothing.
use native.Mathlib.Omega.{arith}
use lib.Dec.{lit<}
use Rattle.mdi_write.proofs.Values.{sdc_value, any_room, any_put}
use Rattle.mdi_write.proofs.put_sdc.Goals as goal

pub put_item-requires : goal.put_item-requires
put_item-requires c =
    let v = c.value_length-n.ensures in
    let a = v.0 in
    let b = v.1 in
    let q = any_room _ _ c.args.out.now _ (sdc_value _ c.args.s _ c.put.ensures v) (omega arith) c.requires.1 in
    (c.requires.0, lit< tt, q.0, q.1)

pub returns : goal.returns
returns c = let both = any_put _ _ c.args.out.now _ _ _ _ (sdc_value _ c.args.s _ c.put.ensures c.value_length-n.ensures) c.put_item.ensures.value c.put_item.ensures.out_after in record { value = both.0; out_after = both.1 }
