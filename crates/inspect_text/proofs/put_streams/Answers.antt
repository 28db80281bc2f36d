-- `inspect_text::put_streams` meets its contract. Assumes nothing.
use native.Mathlib.Omega.{arith}
use Rattle.inspect_text.specs.Inspect.{streams_text}
use Rattle.moves.proofs.Pieces.{puts_then}
use Rattle.line_text.proofs.Room.{fit}
use Rattle.inspect_text.proofs.put_streams.Goals as goal

pub returns : goal.returns
unfolding streams_text
returns c =
    let p0 = fit (omega arith) c.word-a.ensures.1 in
    let p1 = c.put_lengths-b.ensures.1 in
    let p2 = fit (omega arith) c.word.ensures.1 in
    (omega arith, puts_then (omega arith) p0 (puts_then (omega arith) p1 p2))
