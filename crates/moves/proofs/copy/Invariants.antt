-- What the loop of `copy` keeps. Assumes nothing.
use Rattle.moves.proofs.Turns.{Put}
use Rattle.moves.proofs.copy.Given as goal

abbrev pub invariant-loop-j : goal.invariant-loop-j
invariant-loop-j l = Put l.initial.dst l.at l.src l.dst l.j
