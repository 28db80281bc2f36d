-- `moves::put` meets its contract. Assumes nothing.
use mathlib.Core.Path.{refl}
use Rattle.moves.proofs.Turns.{put_out}
use Rattle.moves.proofs.Pieces.{end_in, end_out}
use Rattle.moves.proofs.put.Goals as goal

pub returns-then-not-fits-clause-answer : goal.returns-then-not-fits-clause-answer
returns-then-not-fits-clause-answer c = end_out _ _ _ _ c.fits.ensures c.if-not-fits.true

pub returns-then-not-fits-clause-memory : goal.returns-then-not-fits-clause-memory
returns-then-not-fits-clause-memory c = put_out _ _ _ _ _ refl c.fits.ensures c.if-not-fits.true

pub returns-clause-answer : goal.returns-clause-answer
returns-clause-answer c = end_in _ _ _ _ c.fits.ensures c.if-not-fits.false

pub returns-clause-memory : goal.returns-clause-memory
returns-clause-memory c = c.copy.ensures
