-- `layout_text::put_parts` meets its contract. Assumes nothing.
use mathlib.Core.Path.{refl, ap, ◌∙◌}
use native.Mathlib.Omega.{arith}
use lib.Seq.{take_all}
use Rattle.moves.proofs.Pieces.{puts_same}
use Rattle.layout_text.specs.Text.{part_lines}
use Rattle.layout_text.proofs.Lines.{parts_none, parts_more}
use Rattle.layout_text.proofs.put_parts.Goals as goal

pub loop-i-init : goal.loop-i-init
loop-i-init c = (omega arith, parts_none _ _ _, refl)

pub put_part-next-requires : goal.put_part-next-requires
put_part-next-requires c =
    let m = c.loop-i.invariant.2 in
    let i = c.loop-i-test.true in
    let n = c.requires.0 in
    omega arith

pub loop-i-preserved : goal.loop-i-preserved
loop-i-preserved c =
    let q = c.loop-i.invariant in
    let i = c.loop-i-test.true in
    let n = c.requires.0 in (
      omega arith,
      parts_more _ _ c.loop-i.i _ _ _ _ _ _ i (omega arith) q.1 c.put_part-next.ensures.1,
      c.put_part-next.auto.out ∙ q.2,
    )

pub returns : goal.returns
returns c =
    let q = c.loop-i.invariant in
    let i = c.loop-i.auto.i-end in
    let n = c.requires.0 in
    (omega arith, puts_same (ap (part_lines c.args.name.now 0) (take_all c.loop-i.i c.args.parts.now c.loop-i-test.false)) q.1)
