-- `stamp_text::put_date` meets its contract. Assumes nothing.
use native.Mathlib.Omega.{arith}
use Rattle.stamp_text.specs.Date.{date_text}
use Rattle.moves.proofs.Pieces.{puts_then}
use Rattle.line_text.proofs.Room.{fit}
use Rattle.stamp_text.proofs.put_date.Goals as goal

pub returns : goal.returns
unfolding date_text
returns c =
    let p0 = fit (omega arith) c.named-a.ensures.1 in
    let p1 = c.put_two-b.ensures.1 in
    let p2 = c.put_two-c.ensures.1 in
    let p3 = c.put_two-e.ensures.1 in
    let p4 = c.put_clock.ensures.1 in
    (omega arith, puts_then (omega arith) p0 (puts_then (omega arith) p1 (puts_then (omega arith) p2 (puts_then (omega arith) p3 p4))))
