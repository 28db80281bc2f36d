-- `tag_spots::row_of` meets its contract. Assumes nothing.
use Rattle.tag_spots.proofs.Search.{row_empty, row_here, row_other, row_none}
use native.Mathlib.Nat.{mod-lt}
use native.Mathlib.Omega.{arith}
use Rattle.tag_spots.proofs.row_of.Goals as goal
use Rattle.tag_spots.proofs.row_of.Goals.{else-row-n-via-then-row-n+else-read32-key, else-row-n-via-else-row-n}

pub returns-then-m-eq0 : goal.returns-then-m-eq0
returns-then-m-eq0 c = row_empty c.args.names.now c.args.slots.now _ _ (omega (arith, c.ranges.key)) c.if-m-eq0.true

pub bounds-slots-key : goal.bounds-slots-key
bounds-slots-key c = let h = c.if-m-eq0.false in mod-lt _ (omega (arith, h))

pub returns-then-read32-key : goal.returns-then-read32-key
returns-then-read32-key c = (row_here c.args.names.now c.args.slots.now _ _ (omega (arith, c.ranges.key)) c.if-m-eq0.false _ c.from-row.ensures _ c.if-row-n.true c.read32.ensures c.if-read32-key.true, c.if-row-n.true)

pub returns : goal.returns
returns c =
    let low = c.ranges.key in
    elim c.else-row-n.branch [
      | else-row-n-via-then-row-n+else-read32-key w ↦ (row_other c.args.names.now c.args.slots.now _ _ (omega (arith, low)) c.if-m-eq0.false _ c.from-row.ensures _ w.read32.ensures w.if-read32-key.false)
      | else-row-n-via-else-row-n w ↦ (row_none c.args.names.now c.args.slots.now _ _ (omega (arith, low)) c.if-m-eq0.false _ c.from-row.ensures w.if-row-n.false)
    ]
