-- `inspect_text::put_raw_stamp` meets its contract. Assumes nothing.
use native.Mathlib.Omega.{arith}
use Rattle.inspect_text.specs.Break.{raw_stamp_text}
use Rattle.moves.proofs.Pieces.{puts_then}
use Rattle.line_text.proofs.Room.{fit}
use Rattle.inspect_text.proofs.put_raw_stamp.Goals as goal

pub returns : goal.returns
unfolding raw_stamp_text
returns c =
    let p0 = fit (omega arith) c.named-a.ensures.1 in
    let p1 = fit (omega arith) c.millis-b.ensures.1 in
    let p2 = fit (omega arith) c.named.ensures.1 in
    (omega arith, puts_then (omega arith) p0 (puts_then (omega arith) p1 p2))
