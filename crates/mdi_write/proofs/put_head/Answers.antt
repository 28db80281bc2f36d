-- `mdi_write::put_head` meets its contract. Assumes nothing.
use Rattle.mdi_write.proofs.Values.{mode_fits, mode_served}
use lib.Dec.{lit≤, lit<}
use Rattle.mdi_write.specs.Packet.{head_values}
use Rattle.mdi_write.proofs.Laying.{row_first, row_room, row_next, row_done, no_more}
use Rattle.mdi_write.proofs.put_head.Goals as goal

pub put_item-a-requires : goal.put_item-a-requires
put_item-a-requires c =
    let vs = head_values c.args.r in
    let r0 = row_first 0 vs c.args.out.now 0 c.requires.2 in
    (c.requires.0, lit< tt, lit≤ tt, row_room 0 vs 0 (lit< tt) (lit≤ tt) _ _ r0)

pub put_count-b-requires : goal.put_count-b-requires
put_count-b-requires c =
    let vs = head_values c.args.r in
    let r0 = row_first 0 vs c.args.out.now 0 c.requires.2 in
    let r1 = row_next 0 vs 0 (lit< tt) (lit≤ tt) _ _ r0 _ _ (c.put_item-a.ensures.value, c.put_item-a.ensures.out_after) in
    (c.requires.0, row_room 0 vs 1 (lit< tt) (lit≤ tt) _ _ r1)

pub put_fac-c-requires : goal.put_fac-c-requires
put_fac-c-requires c =
    let vs = head_values c.args.r in
    let r0 = row_first 0 vs c.args.out.now 0 c.requires.2 in
    let r1 = row_next 0 vs 0 (lit< tt) (lit≤ tt) _ _ r0 _ _ (c.put_item-a.ensures.value, c.put_item-a.ensures.out_after) in
    let r2 = row_next 0 vs 1 (lit< tt) (lit≤ tt) _ _ r1 _ _ (c.put_count-b.ensures.value, c.put_count-b.ensures.out_after) in
    (c.requires.0, c.requires.1.fits, c.requires.1.served, row_room 0 vs 2 (lit< tt) (lit≤ tt) _ _ r2)

pub put_sdc-e-requires : goal.put_sdc-e-requires
put_sdc-e-requires c =
    let vs = head_values c.args.r in
    let r0 = row_first 0 vs c.args.out.now 0 c.requires.2 in
    let r1 = row_next 0 vs 0 (lit< tt) (lit≤ tt) _ _ r0 _ _ (c.put_item-a.ensures.value, c.put_item-a.ensures.out_after) in
    let r2 = row_next 0 vs 1 (lit< tt) (lit≤ tt) _ _ r1 _ _ (c.put_count-b.ensures.value, c.put_count-b.ensures.out_after) in
    let r3 = row_next 0 vs 2 (lit< tt) (lit≤ tt) _ _ r2 _ _ (c.put_fac-c.ensures.value, c.put_fac-c.ensures.out_after) in
    (c.requires.0, row_room 0 vs 3 (lit< tt) (lit≤ tt) _ _ r3)

pub put_description-g-requires : goal.put_description-g-requires
put_description-g-requires c =
    let vs = head_values c.args.r in
    let r0 = row_first 0 vs c.args.out.now 0 c.requires.2 in
    let r1 = row_next 0 vs 0 (lit< tt) (lit≤ tt) _ _ r0 _ _ (c.put_item-a.ensures.value, c.put_item-a.ensures.out_after) in
    let r2 = row_next 0 vs 1 (lit< tt) (lit≤ tt) _ _ r1 _ _ (c.put_count-b.ensures.value, c.put_count-b.ensures.out_after) in
    let r3 = row_next 0 vs 2 (lit< tt) (lit≤ tt) _ _ r2 _ _ (c.put_fac-c.ensures.value, c.put_fac-c.ensures.out_after) in
    let r4 = row_next 0 vs 3 (lit< tt) (lit≤ tt) _ _ r3 _ _ (c.put_sdc-e.ensures.value, c.put_sdc-e.ensures.out_after) in
    (c.requires.0, c.requires.1.small, mode_fits c.args.r.fac c.requires.1.fits, mode_served c.args.r.fac c.requires.1.served, c.requires.1.formed, row_room 0 vs 4 (lit< tt) (lit≤ tt) _ _ r4)

pub put_mode-requires : goal.put_mode-requires
put_mode-requires c =
    let vs = head_values c.args.r in
    let r0 = row_first 0 vs c.args.out.now 0 c.requires.2 in
    let r1 = row_next 0 vs 0 (lit< tt) (lit≤ tt) _ _ r0 _ _ (c.put_item-a.ensures.value, c.put_item-a.ensures.out_after) in
    let r2 = row_next 0 vs 1 (lit< tt) (lit≤ tt) _ _ r1 _ _ (c.put_count-b.ensures.value, c.put_count-b.ensures.out_after) in
    let r3 = row_next 0 vs 2 (lit< tt) (lit≤ tt) _ _ r2 _ _ (c.put_fac-c.ensures.value, c.put_fac-c.ensures.out_after) in
    let r4 = row_next 0 vs 3 (lit< tt) (lit≤ tt) _ _ r3 _ _ (c.put_sdc-e.ensures.value, c.put_sdc-e.ensures.out_after) in
    let r5 = row_next 0 vs 4 (lit< tt) (lit≤ tt) _ _ r4 _ _ (c.put_description-g.ensures.value, c.put_description-g.ensures.out_after) in
    (c.requires.0, row_room 0 vs 5 (lit< tt) (lit≤ tt) _ _ r5)

pub returns : goal.returns
returns c =
    let vs = head_values c.args.r in
    let r0 = row_first 0 vs c.args.out.now 0 c.requires.2 in
    let r1 = row_next 0 vs 0 (lit< tt) (lit≤ tt) _ _ r0 _ _ (c.put_item-a.ensures.value, c.put_item-a.ensures.out_after) in
    let r2 = row_next 0 vs 1 (lit< tt) (lit≤ tt) _ _ r1 _ _ (c.put_count-b.ensures.value, c.put_count-b.ensures.out_after) in
    let r3 = row_next 0 vs 2 (lit< tt) (lit≤ tt) _ _ r2 _ _ (c.put_fac-c.ensures.value, c.put_fac-c.ensures.out_after) in
    let r4 = row_next 0 vs 3 (lit< tt) (lit≤ tt) _ _ r3 _ _ (c.put_sdc-e.ensures.value, c.put_sdc-e.ensures.out_after) in
    let r5 = row_next 0 vs 4 (lit< tt) (lit≤ tt) _ _ r4 _ _ (c.put_description-g.ensures.value, c.put_description-g.ensures.out_after) in
    let both = row_done 0 vs 0 (lit< tt) (lit≤ tt) _ _ r0 _ _ (c.put_item-a.ensures.value, c.put_item-a.ensures.out_after) _ _
    (row_done 0 vs 1 (lit< tt) (lit≤ tt) _ _ r1 _ _ (c.put_count-b.ensures.value, c.put_count-b.ensures.out_after) _ _
    (row_done 0 vs 2 (lit< tt) (lit≤ tt) _ _ r2 _ _ (c.put_fac-c.ensures.value, c.put_fac-c.ensures.out_after) _ _
    (row_done 0 vs 3 (lit< tt) (lit≤ tt) _ _ r3 _ _ (c.put_sdc-e.ensures.value, c.put_sdc-e.ensures.out_after) _ _
    (row_done 0 vs 4 (lit< tt) (lit≤ tt) _ _ r4 _ _ (c.put_description-g.ensures.value, c.put_description-g.ensures.out_after) _ _
    (row_done 0 vs 5 (lit< tt) (lit≤ tt) _ _ r5 _ _ (c.put_mode.ensures.value, c.put_mode.ensures.out_after) _ _
    (no_more _ _ 6)))))) in record { value = both.0; out_after = both.1 }
