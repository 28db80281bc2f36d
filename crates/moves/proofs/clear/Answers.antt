-- `moves::clear` meets its contract. Assumes nothing.
use Rattle.moves.proofs.Turns.{zeros_in, put_out}
use lib.ListN.{length-replicate}
use Rattle.moves.proofs.clear.Goals as goal

pub returns-then-fits : goal.returns-then-fits
returns-then-fits c = zeros_in _ _ _ _ _ c.fits.ensures c.if-fits.true (c.fill.ensures.after (λ y h. h))

pub returns-else-fits : goal.returns-else-fits
returns-else-fits c = put_out _ _ _ _ _ (length-replicate _ 0) c.fits.ensures c.if-fits.false
