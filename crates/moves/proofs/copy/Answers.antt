-- `moves::copy` meets its contract. Assumes nothing.
use mathlib.Core.Path.{refl}
use Rattle.moves.proofs.Turns.{put_none, put_one, put_all, put_out}
use Rattle.moves.proofs.copy.Goals as goal

pub loop-j-init : goal.loop-j-init
loop-j-init c = put_none _ _ _

pub loop-j-preserved : goal.loop-j-preserved
loop-j-preserved c = put_one _ _ _ _ _ _ _ _ refl c.fits.ensures c.if-fits.true c.loop-j-test.true refl c.loop-j.invariant

pub returns-after-loop-j : goal.returns-after-loop-j
returns-after-loop-j c = put_all _ _ _ _ _ _ _ refl c.fits.ensures c.if-fits.true c.loop-j-test.false c.loop-j.invariant

pub returns-else-fits : goal.returns-else-fits
returns-else-fits c = put_out _ _ _ _ _ refl c.fits.ensures c.if-fits.false
