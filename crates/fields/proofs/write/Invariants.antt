-- What the loop of `write` keeps: the low i bytes of what is left of v, written, give what all of v gives. Assumes nothing.
use mathlib.Core.Path.{◌≡◌}
use Rattle.fields.specs.Numbers.{put_at}
use Rattle.fields.proofs.write.Given as goal

abbrev pub invariant-loop-i : goal.invariant-loop-i
invariant-loop-i l = put_at l.i l.dst l.at l.rest ≡ put_at l.n l.initial.dst l.at l.v
