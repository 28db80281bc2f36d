-- `stamp_text::put_stamp` meets its contract. Assumes nothing.
use native.Mathlib.Omega.{arith}
use Rattle.stamp_text.specs.Stamp.{stamp_text}
use Rattle.moves.proofs.Pieces.{puts_then}
use Rattle.line_text.proofs.Room.{fit}
use Rattle.stamp_text.proofs.put_stamp.Goals as goal

pub returns : goal.returns
unfolding stamp_text
returns c =
    let p0 = c.put_utc-a.ensures.1 in
    let p1 = fit (omega arith) c.named.ensures.1 in
    (omega arith, puts_then (omega arith) p0 p1)
