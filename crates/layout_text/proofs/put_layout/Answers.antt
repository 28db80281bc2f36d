-- `layout_text::put_layout` meets its contract. Assumes nothing.
use native.Mathlib.Omega.{arith}
use Rattle.layout_text.specs.Text.{lines_of}
use Rattle.moves.proofs.Pieces.{puts_then}
use Rattle.line_text.proofs.Room.{fit}
use Rattle.layout_text.proofs.put_layout.Goals as goal

pub returns : goal.returns
unfolding lines_of
returns c =
    let p0 = fit (omega arith) c.line-a.ensures.1 in
    let p1 = c.put_parts-b.ensures.1 in
    let p2 = c.put_parts-c.ensures.1 in
    let p3 = c.put_padding.ensures.1 in
    (omega arith, puts_then (omega arith) p0 (puts_then (omega arith) p1 (puts_then (omega arith) p2 p3)))
