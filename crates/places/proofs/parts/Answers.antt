-- `places::parts` meets its contract. Assumes nothing.
use mathlib.Core.Path.{refl}
use Prim.Native.Nat.{◌<◌, ◌^◌}
use native.Mathlib.Omega.{arith}
use lib.ListN.{get_or}
use Rattle.std.proofs.Math.Facts.{Fits-lt-pow}
use Rattle.places.proofs.Placing.{begun, placed_more, all_placed}
use Rattle.places.proofs.parts.Goals as goal

pub overflow_add-at : goal.overflow_add-at
overflow_add-at c =
    let h = c.loop-i.invariant.small in
    let k : get_or c.args.lengths.now c.loop-i.i 0 < 2 ^ 16 = Fits-lt-pow (c.type_inv.lengths c.loop-i.i) in
    let e = c.from-len.ensures in
    let i = c.loop-i-test.true in
    let n = c.requires in
    omega arith

pub loop-i-init : goal.loop-i-init
loop-i-init c = begun _ _ refl

pub loop-i-preserved : goal.loop-i-preserved
loop-i-preserved c =
    let i = c.loop-i-test.true in
    let n = c.requires in
    placed_more _ _ c.loop-i.i _ _ i (omega arith) c.from-len.ensures (rw c.from-len.ensures (Fits-lt-pow (c.type_inv.lengths c.loop-i.i))) c.loop-i.invariant

pub returns : goal.returns
returns c =
    let i = c.loop-i-test.false in
    let n = c.requires in
    all_placed _ _ c.loop-i.i _ i (omega arith) c.loop-i.invariant
