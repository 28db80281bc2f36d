-- `inspect_text::put_lengths` meets its contract. Assumes nothing.
use native.Mathlib.Omega.{arith}
use Rattle.inspect_text.specs.Inspect.{lengths_text}
use Rattle.moves.proofs.Pieces.{puts_then}
use Rattle.inspect_text.proofs.put_lengths.Goals as goal

pub returns : goal.returns
unfolding lengths_text
returns c =
    let p0 = c.put_length-a.ensures.1 in
    let p1 = c.put_length-b.ensures.1 in
    let p2 = c.put_length-c.ensures.1 in
    let p3 = c.put_length.ensures.1 in
    (omega arith, puts_then (omega arith) p0 (puts_then (omega arith) p1 (puts_then (omega arith) p2 p3)))
