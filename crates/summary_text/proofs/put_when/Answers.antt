-- `summary_text::put_when` meets its contract. Assumes nothing.
use native.Mathlib.Omega.{arith}
use Rattle.summary_text.specs.Summary.{when_text}
use Rattle.moves.proofs.Pieces.{puts_then}
use Rattle.line_text.proofs.Room.{fit}
use Rattle.summary_text.proofs.put_when.Goals as goal

pub returns : goal.returns
unfolding when_text
returns c =
    let p0 = fit (omega arith) c.word-a.ensures.1 in
    let p1 = fit (omega arith) c.time-b.ensures.1 in
    let p2 = fit (omega arith) c.word.ensures.1 in
    (omega arith, puts_then (omega arith) p0 (puts_then (omega arith) p1 p2))
