-- What the loop of `is_blank` keeps, and how it ends. Assumes nothing.
use mathlib.Core.Bool.{◌&&◌}
use mathlib.Core.Path.{◌≡◌}
use lib.ListN.{drop}
use Rattle.sdc.specs.Block.{blank}
use Rattle.sdc.proofs.is_blank.Given as goal

abbrev pub invariant-loop-i : goal.invariant-loop-i
invariant-loop-i l = (l.all && blank (drop l.i l.s)) ≡ blank (drop l.from l.s)
