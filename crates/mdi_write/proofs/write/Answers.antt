-- `mdi_write::write` meets its contract. Assumes nothing.
use lib.ListN.{length}
use mathlib.Core.Path.{refl, sym}
use Rattle.std.proofs.lemmas.Result.{err_from_is_err_and}
use Rattle.refusal.specs.Refusal.{number_of}
use Rattle.refusal.proofs.Numbers.{number_ne0}
use Rattle.mdi_write.specs.Packet.{four}
use Rattle.mdi_write.proofs.Laying.{head_fits, streams_fit, time_fits, packet_written}
use Rattle.mdi_write.proofs.Numbers.{fits_of, small_of, tested_of, write_refused, write_done}
use Rattle.mdi_write.proofs.write.Goals as goal

pub returns-in_err-check_packet : goal.returns-in_err-check_packet
returns-in_err-check_packet c =
    let ss = four c.args.s0.now c.args.s1.now c.args.s2.now c.args.s3.now in
    let p = err_from_is_err_and c.from_residual.result c.from_residual.ensures.1 in
    rw (p.1, p.2) (let both = write_refused c.args.r ss c.args.out.now (number_of c.in_err-check_packet.field-0.0) c.in_err-check_packet.ensures (number_ne0 _) in record { answer = both.0; memory = both.1 })

pub put_head-a-requires : goal.put_head-a-requires
put_head-a-requires c =
    let ss = four c.args.s0.now c.args.s1.now c.args.s2.now c.args.s3.now in
    let f = fits_of c.args.r ss (length c.args.out.now) (sym c.in_ok-check_packet.ensures) in
    (refl, tested_of c.args.r ss f.0, head_fits c.args.r ss c.args.out.now f.1)

pub put_streams-b-requires : goal.put_streams-b-requires
put_streams-b-requires c =
    let ss = four c.args.s0.now c.args.s1.now c.args.s2.now c.args.s3.now in
    let f = fits_of c.args.r ss (length c.args.out.now) (sym c.in_ok-check_packet.ensures) in
    (refl, f.0.short, streams_fit c.args.r ss c.args.out.now f.1 _ _ (c.put_head-a.ensures.value, c.put_head-a.ensures.out_after))

pub put_time-length-requires : goal.put_time-length-requires
put_time-length-requires c =
    let ss = four c.args.s0.now c.args.s1.now c.args.s2.now c.args.s3.now in
    let f = fits_of c.args.r ss (length c.args.out.now) (sym c.in_ok-check_packet.ensures) in
    (refl, (small_of c.args.r f.0.fields).time, time_fits c.args.r ss c.args.out.now f.1 _ _ (c.put_head-a.ensures.value, c.put_head-a.ensures.out_after) _ _ (c.put_streams-b.ensures.value, c.put_streams-b.ensures.out_after))

pub returns : goal.returns
returns c =
    let ss = four c.args.s0.now c.args.s1.now c.args.s2.now c.args.s3.now in
    let f = fits_of c.args.r ss (length c.args.out.now) (sym c.in_ok-check_packet.ensures) in
    let both = write_done c.args.r ss c.args.out.now c.in_ok-check_packet.ensures _ _ (packet_written c.args.r ss c.args.out.now f.1 _ _ (c.put_head-a.ensures.value, c.put_head-a.ensures.out_after) _ _ (c.put_streams-b.ensures.value, c.put_streams-b.ensures.out_after) _ _ (c.put_time-length.ensures.value, c.put_time-length.ensures.out_after)) in record { answer = both.0; memory = both.1 }
