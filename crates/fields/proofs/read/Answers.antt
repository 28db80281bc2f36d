-- `fields::read` meets its contract. Assumes nothing.
use mathlib.Core.Path.{sym}
use Prim.Native.Nat.{◌+◌, ◌-◌, ◌<◌}
use native.Mathlib.Omega.{arith}
use lib.Dec.{lit<}
use lib.ListN.{get_or, drop, length-take}
use Rattle.fields.proofs.Reading.{read_out, number_none, number_more, bits_more, bits_room, part_byte}
use Rattle.fields.proofs.read.Goals as goal
use Rattle.fields.proofs.read.Goals.{then-s-n-via-then-s-n, then-s-n-via-else-s-n+then-s-n-2}

pub returns-then-s-n : goal.returns-then-s-n
returns-then-s-n c =
    let a = c.args in
    elim c.then-s-n.branch [
      | then-s-n-via-then-s-n w ↦ read_out a.n a.s.now a.at (omega arith)
      | then-s-n-via-else-s-n+then-s-n-2 w ↦ read_out a.n a.s.now a.at (omega arith)
    ]

pub loop-byte-init : goal.loop-byte-init
loop-byte-init c =
    let a = c.args in
    record { is = sym (number_none a.s.now a.at (omega arith)); fits = lit< tt }

pub overflow_mul-number : goal.overflow_mul-number
overflow_mul-number c =
    let a = c.args in
    let l = c.loop-byte in
    let h : l.byte-index < a.n = omega (arith, length-take (a.at + a.n - a.at) (drop a.at a.s.now)) in
    omega (arith, bits_room l.byte-index l.number (omega arith) l.invariant.fits)

pub overflow_add-number : goal.overflow_add-number
overflow_add-number c =
    let a = c.args in
    let l = c.loop-byte in
    let h : l.byte-index < a.n = omega (arith, length-take (a.at + a.n - a.at) (drop a.at a.s.now)) in
    let e = part_byte (a.at + a.n - a.at) a.s.now a.at l.byte-index (omega arith) in
    omega (arith, bits_room l.byte-index l.number (omega arith) l.invariant.fits, c.type_inv.s (a.at + l.byte-index), e)

pub loop-byte-preserved : goal.loop-byte-preserved
loop-byte-preserved c =
    let a = c.args in
    let l = c.loop-byte in
    let h : l.byte-index < a.n = omega (arith, length-take (a.at + a.n - a.at) (drop a.at a.s.now)) in
    let e = part_byte (a.at + a.n - a.at) a.s.now a.at l.byte-index (omega arith) in
    let small : get_or a.s.now (a.at + l.byte-index) 0 < 256 = omega (arith, c.type_inv.s (a.at + l.byte-index)) in record {
      is = rw (e, l.invariant.is) (number_more l.byte-index a.s.now a.at (omega arith));
      fits = rw e (bits_more l.byte-index l.number _ l.invariant.fits small);
    }
