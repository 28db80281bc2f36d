-- `line_text::named` meets its contract. Assumes nothing.
use native.Mathlib.Omega.{arith}
use Rattle.std.proofs.lemmas.List.{length-take}
use Rattle.line_text.proofs.Room.{has_room, lacks_room, both}
use Rattle.line_text.proofs.named.Goals as goal

pub returns-then-not-fits : goal.returns-then-not-fits
returns-then-not-fits c = lacks_room _ _ _ _ c.fits.ensures c.if-not-fits.true (omega arith)

pub returns : goal.returns
returns c =
    let r = has_room c.fits.ensures c.if-not-fits.false in
    let w = c.spell-k.ensures in
    let p = c.put-a.ensures in
    let q = c.put.ensures in
    both _ _ _ _ _ _ _ _ _ (omega arith) w.1 (omega (arith, length-take c.spell-k.result c.spell-k.new.out)) p.answer p.memory q.answer q.memory
