-- The spares of a run of calls (02, E11): who got one, in order, and what the frames report of it. From any desk, with any settings in each
-- call; loads and refused calls hand out none. Assumes nothing.
use Rattle.std.specs.Prelude.{ℕ, ◌+◌, ◌-◌, min, List, [], ◌∷◌, ◌++◌, eqb}
use Rattle.laws.specs.Pick.{pick}
use Rattle.hand.specs.Settings.{at}
use Rattle.hand.specs.Hand.{spare_ids}
use Rattle.hand.specs.declared.Three.{Three}
use Rattle.sender.specs.State.{waiting_of}
use Rattle.demand.specs.Run.{Act, load, frame, Desk, settings_of, number_of, after, answer}

-- the packets that wait in each queue before a call
abbrev pub waits_before : Act → Desk → Three
waits_before a x = waiting_of (settings_of a).p x.state

-- the ids that got a spare, in the order of handing out: of a call that is not refused, and of a run
unfoldable pub steps_by : Act → Desk → List ℕ
steps_by (load g id unit) x = []
steps_by (frame g out) x = spare_ids g (waits_before (frame g out) x) x.state.turn

unfoldable pub spares_by : Act → Desk → List ℕ
spares_by a x = pick (eqb (number_of a x) 0) (steps_by a x) []

unfoldable pub spares_in : List Act → Desk → List ℕ
spares_in [] x = []
spares_in (a ∷ rest) x = spares_by a x ++ spares_in rest (after a x)

-- a number of each call that is not refused, added up
unfoldable pub sum_over : (Act → Desk → ℕ) → List Act → Desk → ℕ
sum_over f [] x = 0
sum_over f (a ∷ rest) x = pick (eqb (number_of a x) 0) (f a x) 0 + sum_over f rest (after a x)

-- as reported: the packets of queue i, and those beyond the smaller of its share and what waits. Of a load none
abbrev pub got_by : ℕ → Act → Desk → ℕ
got_by i a x = at (answer a x).packets i

abbrev pub beyond_by : ℕ → Act → Desk → ℕ
beyond_by i a x = got_by i a x - min (at (settings_of a).share i) (at (waits_before a x) i)
