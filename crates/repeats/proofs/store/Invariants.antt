-- What the loop of `store` keeps, and how it ends. Assumes nothing.
use Rattle.repeats.proofs.Names.{Seeing}
use lib.ListN.{length}
use Prim.Native.Nat.{◌-◌}
use mathlib.Core.Path.{◌≡◌}
use Rattle.repeats.proofs.store.Given as goal

abbrev pub invariant-loop-n : goal.invariant-loop-n
invariant-loop-n l = Seeing l.s l.keys l.kids (length l.initial.keys) l.n l.at × (length l.kids ≡ length l.initial.kids)

abbrev pub decreases-loop-n : goal.decreases-loop-n
decreases-loop-n l = length l.s - l.at
