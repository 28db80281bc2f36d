-- `tag_spots::note` meets its contract. Assumes nothing.
use native.Mathlib.Omega.{arith}
use Rattle.tag_spots.proofs.Rows.{note_first, note_later, note_none}
use Rattle.tag_spots.proofs.note.Goals as goal

pub returns-then-starts-i-eq0 : goal.returns-then-starts-i-eq0
returns-then-starts-i-eq0 c =
    let p = note_first _ _ _ _ _ c.args.starts.now c.args.bits.now c.in-Some.ensures.0 c.if-starts-i-eq0.true in
    (p.0, p.1, omega (arith, c.ranges.key))

pub returns-else-starts-i-eq0 : goal.returns-else-starts-i-eq0
returns-else-starts-i-eq0 c =
    let p = note_later _ _ _ _ _ c.args.starts.now c.args.bits.now c.in-Some.ensures.0 c.if-starts-i-eq0.false in
    (p.0, p.1, omega (arith, c.ranges.key))

pub returns-in_default : goal.returns-in_default
returns-in_default c =
    let q = c.requires in
    let p = note_none _ _ _ _ _ c.args.starts.now c.args.bits.now c.in_default.ensures (omega arith) (omega arith) in
    (p.0, p.1, omega (arith, c.ranges.key))
