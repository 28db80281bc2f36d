-- Runs of the calls with counts in the layout of before E9, in which the unsent bytes of each queue stand at the front of its part of the store:
-- what the calls as they are (Run.antt) are held against. No code has this layout. Assumes nothing.
use Rattle.std.specs.Prelude.{ℕ, List, [], ◌∷◌}
use Rattle.hand.specs.Hand.{no_three}
use Rattle.sender.specs.Kept.{Kept, fresh_kept, kept_load_for, kept_store_for, kept_frame_for, kept_store_after, kept_frame_out}
use Rattle.demand.specs.Run.{Act, load, frame, Desk, Answer}
use Rattle.demand.specs.Log.{Event, events}

-- what the calls hand on
pub record KeptDesk : Type 0 where
  pub state : Kept
  pub store : List ℕ

abbrev pub fresh_kept_desk : List ℕ → KeptDesk
fresh_kept_desk store = record { state = fresh_kept; store = store }

-- without its counts it is 01's desk
abbrev pub plain : KeptDesk → Desk
plain x = record { state = x.state.front; store = x.store }

-- the state and the store after a call, and after a run of calls
unfoldable pub after_kept : Act → KeptDesk → KeptDesk
after_kept (load g id unit) x =
    record { state = (kept_load_for g x.state id unit x.store).next; store = kept_store_for g x.state id unit x.store }
after_kept (frame g out) x = record { state = (kept_frame_for g x.state x.store out).next; store = kept_store_after g x.state x.store out }

unfoldable pub run_kept : List Act → KeptDesk → KeptDesk
run_kept [] x = x
run_kept (a ∷ rest) x = run_kept rest (after_kept a x)

-- what the caller sees of a call, and of a run
unfoldable pub answer_kept : Act → KeptDesk → Answer
answer_kept (load g id unit) x =
    record { number = (kept_load_for g x.state id unit x.store).number; packets = no_three; spares = 0; filler = 0; out = [] }
answer_kept (frame g out) x =
    let f = kept_frame_for g x.state x.store out in
    record { number = f.number; packets = f.packets; spares = f.spares; filler = f.filler; out = kept_frame_out g x.state x.store out }

unfoldable pub answers_kept : List Act → KeptDesk → List Answer
answers_kept [] x = []
answers_kept (a ∷ rest) x = answer_kept a x ∷ answers_kept rest (after_kept a x)

-- the run of calls from what x holds, seen from outside
abbrev pub log_kept : List Act → KeptDesk → List Event
log_kept acts x = events acts (answers_kept acts x)
