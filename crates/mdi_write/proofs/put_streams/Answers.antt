-- `mdi_write::put_streams` meets its contract. Assumes nothing.
use lib.Dec.{lit≤, lit<}
use Rattle.mdi_write.specs.Packet.{four, stream_values}
use Rattle.mdi_write.proofs.Laying.{row_first, row_room, row_next, row_done, no_more, not_long}
use Rattle.mdi_write.proofs.put_streams.Goals as goal

pub put_item-a-requires : goal.put_item-a-requires
put_item-a-requires c =
    let ss = four c.args.s0.now c.args.s1.now c.args.s2.now c.args.s3.now in
    let vs = stream_values ss in
    let r0 = row_first 6 vs c.args.out.now _ c.requires.2 in
    (c.requires.0, lit< tt, (not_long ss c.requires.1).0, row_room 6 vs 0 (lit< tt) (lit≤ tt) _ _ r0)

pub put_item-b-requires : goal.put_item-b-requires
put_item-b-requires c =
    let ss = four c.args.s0.now c.args.s1.now c.args.s2.now c.args.s3.now in
    let vs = stream_values ss in
    let r0 = row_first 6 vs c.args.out.now _ c.requires.2 in
    let r1 = row_next 6 vs 0 (lit< tt) (lit≤ tt) _ _ r0 _ _ (c.put_item-a.ensures.value, c.put_item-a.ensures.out_after) in
    (c.requires.0, lit< tt, (not_long ss c.requires.1).1, row_room 6 vs 1 (lit< tt) (lit≤ tt) _ _ r1)

pub put_item-c-requires : goal.put_item-c-requires
put_item-c-requires c =
    let ss = four c.args.s0.now c.args.s1.now c.args.s2.now c.args.s3.now in
    let vs = stream_values ss in
    let r0 = row_first 6 vs c.args.out.now _ c.requires.2 in
    let r1 = row_next 6 vs 0 (lit< tt) (lit≤ tt) _ _ r0 _ _ (c.put_item-a.ensures.value, c.put_item-a.ensures.out_after) in
    let r2 = row_next 6 vs 1 (lit< tt) (lit≤ tt) _ _ r1 _ _ (c.put_item-b.ensures.value, c.put_item-b.ensures.out_after) in
    (c.requires.0, lit< tt, (not_long ss c.requires.1).2, row_room 6 vs 2 (lit< tt) (lit≤ tt) _ _ r2)

pub put_item-requires : goal.put_item-requires
put_item-requires c =
    let ss = four c.args.s0.now c.args.s1.now c.args.s2.now c.args.s3.now in
    let vs = stream_values ss in
    let r0 = row_first 6 vs c.args.out.now _ c.requires.2 in
    let r1 = row_next 6 vs 0 (lit< tt) (lit≤ tt) _ _ r0 _ _ (c.put_item-a.ensures.value, c.put_item-a.ensures.out_after) in
    let r2 = row_next 6 vs 1 (lit< tt) (lit≤ tt) _ _ r1 _ _ (c.put_item-b.ensures.value, c.put_item-b.ensures.out_after) in
    let r3 = row_next 6 vs 2 (lit< tt) (lit≤ tt) _ _ r2 _ _ (c.put_item-c.ensures.value, c.put_item-c.ensures.out_after) in
    (c.requires.0, lit< tt, (not_long ss c.requires.1).3, row_room 6 vs 3 (lit< tt) (lit≤ tt) _ _ r3)

pub returns : goal.returns
returns c =
    let vs = stream_values (four c.args.s0.now c.args.s1.now c.args.s2.now c.args.s3.now) in
    let r0 = row_first 6 vs c.args.out.now _ c.requires.2 in
    let r1 = row_next 6 vs 0 (lit< tt) (lit≤ tt) _ _ r0 _ _ (c.put_item-a.ensures.value, c.put_item-a.ensures.out_after) in
    let r2 = row_next 6 vs 1 (lit< tt) (lit≤ tt) _ _ r1 _ _ (c.put_item-b.ensures.value, c.put_item-b.ensures.out_after) in
    let r3 = row_next 6 vs 2 (lit< tt) (lit≤ tt) _ _ r2 _ _ (c.put_item-c.ensures.value, c.put_item-c.ensures.out_after) in
    let both = row_done 6 vs 0 (lit< tt) (lit≤ tt) _ _ r0 _ _ (c.put_item-a.ensures.value, c.put_item-a.ensures.out_after) _ _
    (row_done 6 vs 1 (lit< tt) (lit≤ tt) _ _ r1 _ _ (c.put_item-b.ensures.value, c.put_item-b.ensures.out_after) _ _
    (row_done 6 vs 2 (lit< tt) (lit≤ tt) _ _ r2 _ _ (c.put_item-c.ensures.value, c.put_item-c.ensures.out_after) _ _
    (row_done 6 vs 3 (lit< tt) (lit≤ tt) _ _ r3 _ _ (c.put_item.ensures.value, c.put_item.ensures.out_after) _ _
    (no_more _ _ 10)))) in record { value = both.0; out_after = both.1 }
