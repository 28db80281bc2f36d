-- `line_text::pair` meets its contract. Assumes nothing.
use native.Mathlib.Omega.{arith}
use Rattle.line_text.proofs.Room.{has_room, lacks_room, placed, fit}
use Rattle.moves.proofs.Pieces.{puts_then}
use Rattle.line_text.proofs.pair.Goals as goal

pub returns-then-not-fits : goal.returns-then-not-fits
returns-then-not-fits c = lacks_room _ _ _ _ c.fits.ensures c.if-not-fits.true (omega arith)

pub returns : goal.returns
returns c =
    let r = has_room c.fits.ensures c.if-not-fits.false in
    let p0 = fit (omega arith) c.named-a.ensures.1 in
    let p1 = fit (omega arith) c.line.ensures.1 in
    (omega arith, placed _ _ _ _ _ _ (omega arith) (puts_then (omega arith) p0 p1))
