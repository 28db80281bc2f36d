-- `inspect_text::put_count` meets its contract. Assumes nothing.
use native.Mathlib.Omega.{arith}
use Rattle.inspect_text.specs.Break.{count_text}
use Rattle.moves.proofs.Pieces.{puts_then}
use Rattle.line_text.proofs.Room.{fit}
use Rattle.inspect_text.proofs.put_count.Goals as goal

pub returns : goal.returns
unfolding count_text
returns c =
    let p0 = fit (omega arith) c.named-a.ensures.1 in
    let p1 = c.put_raw.ensures.1 in
    (omega arith, puts_then (omega arith) p0 p1)
