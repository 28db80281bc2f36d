-- Runs seen from one queue of the state, as the proofs need it. Who reads the conditions needs nothing of this. Assumes nothing.
use Rattle.std.specs.Prelude.{ℕ, ◌+◌, List, [], ◌∷◌, ◌++◌, ◌&&◌, eqb, length}
use Rattle.laws.specs.Part.{part_of}
use Rattle.laws.specs.Pick.{pick}
use Rattle.hand.specs.Settings.{at}
use Rattle.queue.specs.Queue.{units, waits}
use Rattle.queue.specs.Send.{Change, enters, leaves}
use Rattle.row.specs.Content.{content_of}
use Rattle.sender.specs.State.{queue_of}
use Rattle.sender.specs.Load.{load_number}
use Rattle.sender.specs.Frame.{hand_of, frame_number, frame_out}
use Rattle.demand.specs.Bytes.{split}
use Rattle.demand.specs.Run.{Act, load, frame, Desk, after}

-- what a call is for queue id: a unit that was accepted; a frame, with its share and what it took; or nothing
unfoldable pub change_of : ℕ → Act → Desk → List Change
change_of id (load g j unit) x = pick (eqb (load_number g x.state j unit x.store) 0 && eqb id j) (enters (length unit) ∷ []) []
change_of id (frame g out) x =
    pick (eqb (frame_number g x.state x.store out) 0) (leaves (at g.share id) (at (hand_of g x.state).packets id) ∷ []) []

unfoldable pub history : ℕ → List Act → Desk → List Change
history id [] x = []
history id (a ∷ rest) x = change_of id a x ++ history id rest (after a x)

-- the units that it accepted, in order
unfoldable pub accepted_by : ℕ → Act → Desk → List (List ℕ)
accepted_by id (load g j unit) x = pick (eqb (load_number g x.state j unit x.store) 0 && eqb id j) (unit ∷ []) []
accepted_by id (frame g out) x = []

unfoldable pub accepted_in : ℕ → List Act → Desk → List (List ℕ)
accepted_in id [] x = []
accepted_in id (a ∷ rest) x = accepted_by id a x ++ accepted_in id rest (after a x)

-- the packets of a frame, as they stand in its output; a refused frame sends none
unfoldable pub sent_by : Act → Desk → List (List ℕ)
sent_by (load g id unit) x = []
sent_by (frame g out) x =
    pick (eqb (frame_number g x.state x.store out) 0) (split (g.p + 3) g.n (frame_out g x.state x.store out)) []

-- all packets of a run, in order
unfoldable pub sent_in : List Act → Desk → List (List ℕ)
sent_in [] x = []
sent_in (a ∷ rest) x = sent_by a x ++ sent_in rest (after a x)

-- the bytes left of each of its units
unfoldable pub content_in : ℕ → Desk → List (List ℕ)
content_in id x = content_of (queue_of x.state id) (part_of x.store id)

-- the packets that wait in it
unfoldable pub waiting_in : ℕ → ℕ → Desk → ℕ
waiting_in p id x = waits p (units (queue_of x.state id))
