-- `mdi_write::put_description` meets its contract. Assumes nothing.
use mathlib.Core.Path.{◌≡◌}
use lib.ListN.{length}
use Rattle.description.proofs.Tests.{sized}
use native.Mathlib.Omega.{arith}
use lib.Dec.{lit<}
use Rattle.mdi_write.proofs.Values.{description_length, description_value, any_room, any_put, value_size_law, few}
use Rattle.mdi_write.proofs.put_description.Goals as goal

pub slice_bounds-put_item-end : goal.slice_bounds-put_item-end
slice_bounds-put_item-end c =
    let h = description_length c.args.d _ c.requires.1 c.requires.2 c.requires.3 c.requires.4 _ _ c.unwrap_or-n.ensures c.write.ensures.answer in
    omega arith

pub put_item-requires : goal.put_item-requires
put_item-requires c =
    let n : length c.args.d.stream ≡ 4 = search sized in
    let k = few c.args.d _ c.requires.4 in
    let z = value_size_law c.args.d n k in
    let q = any_room _ _ c.args.out.now _ (description_value c.args.d _ c.requires.1 c.requires.2 c.requires.3 c.requires.4 _ _ _ n c.unwrap_or-n.ensures c.write.ensures.answer c.write.ensures.memory) (omega arith) c.requires.5 in
    (c.requires.0, lit< tt, q.0, q.1)

pub returns : goal.returns
returns c =
    let n : length c.args.d.stream ≡ 4 = search sized in
    let both = any_put _ _ c.args.out.now _ _ _ _ (description_value c.args.d _ c.requires.1 c.requires.2 c.requires.3 c.requires.4 _ _ _ n c.unwrap_or-n.ensures c.write.ensures.answer c.write.ensures.memory) c.put_item.ensures.value c.put_item.ensures.out_after in record { value = both.0; out_after = both.1 }
