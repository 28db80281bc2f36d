-- `stamp_text::put_clock` meets its contract. Assumes nothing.
use native.Mathlib.Omega.{arith}
use Rattle.stamp_text.specs.Date.{clock_text}
use Rattle.moves.proofs.Pieces.{puts_then}
use Rattle.line_text.proofs.Room.{fit}
use Rattle.stamp_text.proofs.put_clock.Goals as goal

pub returns : goal.returns
unfolding clock_text
returns c =
    let p0 = c.put_two-a.ensures.1 in
    let p1 = c.put_two-b.ensures.1 in
    let p2 = fit (omega arith) c.millis.ensures.1 in
    (omega arith, puts_then (omega arith) p0 (puts_then (omega arith) p1 p2))
