-- What the loop of `parts` keeps. Assumes nothing.
use Rattle.places.proofs.Placing.{Placed}
use Rattle.places.proofs.parts.Given as goal

abbrev pub invariant-loop-i : goal.invariant-loop-i
invariant-loop-i l = Placed l.lengths l.part l.i l.at
