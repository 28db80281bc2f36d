-- `mdi_write::check_packet` meets its contract. Assumes nothing.
use mathlib.Core.Path.{ap}
use mathlib.Core.Bool.{not}
use Rattle.mdi_write.specs.Packet.{four}
use Rattle.mdi_write.proofs.Numbers.{w_1, w_5, w_6, w_9, w_10, w_11, w_late, w_0, size_ready}
use Rattle.mdi_write.proofs.check_packet.Goals as goal

pub returns-then-is_long : goal.returns-then-is_long
returns-then-is_long c =
    let ss = four c.args.s0.now c.args.s1.now c.args.s2.now c.args.s3.now in
    w_1 c.args.r ss _ _ c.is_long.ensures c.if-is_long.true

pub returns-then-over_long : goal.returns-then-over_long
returns-then-over_long c =
    let ss = four c.args.s0.now c.args.s1.now c.args.s2.now c.args.s3.now in
    w_5 c.args.r ss _ _ c.is_long.ensures c.if-is_long.false _ c.over_long.ensures c.if-over_long.true

pub returns-then-is_large : goal.returns-then-is_large
returns-then-is_large c =
    let ss = four c.args.s0.now c.args.s1.now c.args.s2.now c.args.s3.now in
    w_6 c.args.r ss _ _ c.is_long.ensures c.if-is_long.false _ c.over_long.ensures c.if-over_long.false _ c.is_large.ensures c.if-is_large.true

pub returns-then-not_served : goal.returns-then-not_served
returns-then-not_served c =
    let ss = four c.args.s0.now c.args.s1.now c.args.s2.now c.args.s3.now in
    w_9 c.args.r ss _ _ c.is_long.ensures c.if-is_long.false _ c.over_long.ensures c.if-over_long.false _ c.is_large.ensures c.if-is_large.false _ c.not_served.ensures c.if-not_served.true

pub returns-then-ill_formed : goal.returns-then-ill_formed
returns-then-ill_formed c =
    let ss = four c.args.s0.now c.args.s1.now c.args.s2.now c.args.s3.now in
    w_10 c.args.r ss _ _ c.is_long.ensures c.if-is_long.false _ c.over_long.ensures c.if-over_long.false _ c.is_large.ensures c.if-is_large.false _ c.not_served.ensures c.if-not_served.false _ c.ill_formed.ensures c.if-ill_formed.true

pub returns-then-not-is_agreed : goal.returns-then-not-is_agreed
returns-then-not-is_agreed c =
    let ss = four c.args.s0.now c.args.s1.now c.args.s2.now c.args.s3.now in
    w_11 c.args.r ss _ _ c.is_long.ensures c.if-is_long.false _ c.over_long.ensures c.if-over_long.false _ c.is_large.ensures c.if-is_large.false _ c.not_served.ensures c.if-not_served.false _ c.ill_formed.ensures c.if-ill_formed.false _ c.is_agreed.ensures.0 (ap not c.if-not-is_agreed.true)

pub packet_size-requires : goal.packet_size-requires
packet_size-requires c =
    let ss = four c.args.s0.now c.args.s1.now c.args.s2.now c.args.s3.now in
    size_ready c.args.r ss c.args.room _ c.is_long.ensures c.if-is_long.false _ c.over_long.ensures c.if-over_long.false _ c.is_large.ensures c.if-is_large.false _ c.not_served.ensures c.if-not_served.false _ c.ill_formed.ensures c.if-ill_formed.false _ c.is_agreed.ensures.0

pub returns-then-room-packet_size : goal.returns-then-room-packet_size
returns-then-room-packet_size c =
    let ss = four c.args.s0.now c.args.s1.now c.args.s2.now c.args.s3.now in
    w_late c.args.r ss _ _ c.is_long.ensures c.if-is_long.false _ c.over_long.ensures c.if-over_long.false _ c.is_large.ensures c.if-is_large.false _ c.not_served.ensures c.if-not_served.false _ c.ill_formed.ensures c.if-ill_formed.false _ c.is_agreed.ensures.0 (ap not c.if-not-is_agreed.false) c.is_agreed.ensures.1 _ c.packet_size.ensures c.if-room-packet_size.true

pub returns : goal.returns
returns c =
    let ss = four c.args.s0.now c.args.s1.now c.args.s2.now c.args.s3.now in
    w_0 c.args.r ss _ _ c.is_long.ensures c.if-is_long.false _ c.over_long.ensures c.if-over_long.false _ c.is_large.ensures c.if-is_large.false _ c.not_served.ensures c.if-not_served.false _ c.ill_formed.ensures c.if-ill_formed.false _ c.is_agreed.ensures.0 (ap not c.if-not-is_agreed.false) c.is_agreed.ensures.1 _ c.packet_size.ensures c.if-room-packet_size.false
