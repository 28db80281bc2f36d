-- `inspect_text::put_content` meets its contract. Assumes nothing.
use native.Mathlib.Omega.{arith}
use Rattle.inspect_text.specs.Inspect.{content_text}
use Rattle.moves.proofs.Pieces.{puts_then}
use Rattle.line_text.proofs.Room.{fit}
use Rattle.inspect_text.proofs.put_content.Goals as goal

pub returns : goal.returns
unfolding content_text
returns c =
    let p0 = fit (omega arith) c.named-a.ensures.1 in
    let p1 = fit (omega arith) c.time-b.ensures.1 in
    let p2 = c.put_mode-e.ensures.1 in
    let p3 = c.put_streams.ensures.1 in
    (omega arith, puts_then (omega arith) p0 (puts_then (omega arith) p1 (puts_then (omega arith) p2 p3)))
