-- `layout_text::put_part` meets its contract. Assumes nothing.
use native.Mathlib.Omega.{arith}
use Rattle.layout_text.specs.Text.{place_text}
use Rattle.layout_text.proofs.Lines.{line_none, line_some}
use Rattle.moves.proofs.Pieces.{puts_then}
use Rattle.line_text.proofs.Room.{fit}
use Rattle.layout_text.proofs.put_part.Goals as goal

pub returns-then-x-eq0 : goal.returns-then-x-eq0
returns-then-x-eq0 c = (omega arith, line_none _ _ _ _ c.if-x-eq0.true)

pub returns : goal.returns
unfolding place_text
returns c =
    let p0 = fit (omega arith) c.named-a.ensures.1 in
    let p1 = fit (omega arith) c.pair.ensures.1 in
    (omega arith, line_some _ _ _ _ _ _ c.if-x-eq0.false (puts_then (omega arith) p0 p1))
