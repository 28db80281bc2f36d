-- What the loop of `Plan::give_all` keeps. Assumes nothing.
use mathlib.Core.Path.{◌≡◌}
use Rattle.hand.specs.Hand.{spread}
use Rattle.hand.proofs.Plan.give_all.Given as goal

abbrev pub invariant-loop : goal.invariant-loop
invariant-loop l = l.given ≡ spread l.counter l.cap l.initial.given
