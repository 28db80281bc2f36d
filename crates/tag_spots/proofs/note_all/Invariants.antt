-- What the loop of `note_all` keeps, and how it ends. Assumes nothing.
use Rattle.tag_spots.proofs.Walk.{Walking}
use Prim.Native.Nat.{◌-◌}
use lib.ListN.{length}
use Rattle.tag_spots.proofs.note_all.Given as goal

abbrev pub invariant-loop-at : goal.invariant-loop-at
invariant-loop-at l = Walking l.s l.names l.slots l.initial.starts l.initial.bits l.starts l.bits l.at

abbrev pub decreases-loop-at : goal.decreases-loop-at
decreases-loop-at l = length l.s - l.at
