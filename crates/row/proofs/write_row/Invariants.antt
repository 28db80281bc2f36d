-- What the loop of `write_row` keeps. Assumes nothing.
use Rattle.ring.specs.Ring.{turned}
use Rattle.row.proofs.Steps.{Writing}
use Rattle.row.proofs.write_row.Given as goal

abbrev pub invariant-loop : goal.invariant-loop
invariant-loop l = Writing l.p l.id l.n (turned l.start l.ring) l.initial.dst l.w l.initial.r l.dst l.r l.at l.counter
