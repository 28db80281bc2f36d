-- `mdi_write::put_fac` meets its contract. Assumes nothing.
use Rattle.fac.proofs.Back.{value_length_law}
use lib.Dec.{lit<}
use native.Mathlib.Omega.{arith}
use Rattle.mdi_write.proofs.Values.{any_room, fac_value, any_put}
use Rattle.mdi_write.proofs.put_fac.Goals as goal

pub put_item-requires : goal.put_item-requires
put_item-requires c =
    let l = value_length_law c.args.f in
    let q = any_room _ _ c.args.out.now _ (fac_value _ c.args.f c.requires.1 c.requires.2 c.write.ensures.memory) (omega arith) c.requires.3 in
    (c.requires.0, lit< tt, q.0, q.1)

pub returns : goal.returns
returns c = let both = any_put _ _ c.args.out.now _ _ _ _ (fac_value _ c.args.f c.requires.1 c.requires.2 c.write.ensures.memory) c.put_item.ensures.value c.put_item.ensures.out_after in record { value = both.0; out_after = both.1 }
