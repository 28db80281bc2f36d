-- `description::put_lengths` meets its contract. Assumes nothing.
use mathlib.Core.Path.{refl}
use native.Mathlib.Omega.{arith}
use lib.ListN.{length-set}
use Rattle.description.proofs.Pieces.{lengths_put}
use Rattle.description.proofs.put_lengths.Goals as goal

pub bounds-out-at-2 : goal.bounds-out-at-2
bounds-out-at-2 c = simp length-set (omega arith)

pub bounds-out-at-3 : goal.bounds-out-at-3
bounds-out-at-3 c = simp length-set (omega arith)

pub returns : goal.returns
returns c = lengths_put c.args.out.now c.args.at c.args.l _ c.requires (rw (c.from.ensures, c.from-2.ensures) refl)
