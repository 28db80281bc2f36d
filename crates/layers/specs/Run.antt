-- Runs of the calls as they are: each is handed the state and the store that the last one left. Assumes nothing.
use Rattle.std.specs.Prelude.{ℕ, List, [], ◌∷◌}
use Rattle.hand.specs.Hand.{no_three}
use Rattle.sender.specs.Rings.{fresh_rings, ring_load_for, ring_store_for, ring_frame_for, ring_frame_out}
use Rattle.sender.specs.declared.Sender.{Sender}
use Rattle.demand.specs.Run.{Act, load, frame, Answer}
use Rattle.demand.specs.Log.{Event, events}

-- what the calls hand on
pub record RingDesk : Type 0 where
  pub state : Sender
  pub store : List ℕ

abbrev pub fresh_ring_desk : List ℕ → RingDesk
fresh_ring_desk store = record { state = fresh_rings; store = store }

-- the state and the store after a call, and after a run of calls. A frame leaves the store as it is
unfoldable pub after_ring : Act → RingDesk → RingDesk
after_ring (load g id unit) y =
    record { state = (ring_load_for g y.state id unit y.store).next; store = ring_store_for g y.state id unit y.store }
after_ring (frame g out) y = record { state = (ring_frame_for g y.state y.store out).next; store = y.store }

unfoldable pub run_ring : List Act → RingDesk → RingDesk
run_ring [] y = y
run_ring (a ∷ rest) y = run_ring rest (after_ring a y)

-- what the caller sees of a call, and of a run
unfoldable pub answer_ring : Act → RingDesk → Answer
answer_ring (load g id unit) y =
    record { number = (ring_load_for g y.state id unit y.store).number; packets = no_three; spares = 0; filler = 0; out = [] }
answer_ring (frame g out) y =
    let f = ring_frame_for g y.state y.store out in
    record { number = f.number; packets = f.packets; spares = f.spares; filler = f.filler; out = ring_frame_out g y.state y.store out }

unfoldable pub answers_ring : List Act → RingDesk → List Answer
answers_ring [] y = []
answers_ring (a ∷ rest) y = answer_ring a y ∷ answers_ring rest (after_ring a y)

-- the run of calls from what y holds, seen from outside
abbrev pub log_ring : List Act → RingDesk → List Event
log_ring acts y = events acts (answers_ring acts y)
