-- E9 of 02, queues as rings: whatever is called, frames, counts and refusals are those of the layout of before. Assumes nothing.
use Rattle.std.specs.Prelude.{ℕ, ◌+◌, ◌*◌, ◌%◌, ◌≤◌, ◌<◌, ◌≡◌, List, ◌++◌, eqb, length, get_or, take}
use Rattle.laws.specs.Part.{part_of}
use Rattle.laws.specs.Pick.{pick}
use Rattle.hand.specs.Settings.{settings_for}
use Rattle.hand.specs.declared.Settings.{Settings}
use Rattle.queue.specs.Queue.{unsent}
use Rattle.row.specs.Content.{content_of}
use Rattle.sender.specs.State.{queue_of}
use Rattle.sender.specs.Rings.{front_of, kept_of, ring_start, ring_of}
use Rattle.demand.specs.Run.{Act, load, frame, settings_of}
use Rattle.demand.specs.Log.{Event, Stands, accepted_of, sent_of, left_of}
use Rattle.delivery.specs.Delivered.{fresh_ear, line_at, hear_all}
use Rattle.delivery.specs.Whole.{delivered_in, wholes}
use Rattle.layers.specs.KeptRun.{KeptDesk, fresh_kept_desk, after_kept, run_kept, answer_kept, answers_kept}
use Rattle.layers.specs.Run.{RingDesk, fresh_ring_desk, after_ring, run_ring, answer_ring, answers_ring, log_ring}

-- the bytes of queue id that a desk has yet to send, in order: at the front of its part, or from its start on and around its end
abbrev pub pending_front : KeptDesk → ℕ → List ℕ
pending_front x id = take (unsent (queue_of x.state.front id)) (part_of x.store id)

abbrev pub pending_ring : RingDesk → ℕ → List ℕ
pending_ring y id = take (unsent (queue_of (front_of y.state) id)) (ring_of y.state.start y.store id)

-- a desk of the layout of before and one with rings hold the same units, counts, turn and indexes, and the same bytes to send. Of the other bytes
-- nothing is said
pub record Same (x : KeptDesk) (y : RingDesk) : Type 0 where
  pub state : x.state ≡ kept_of y.state
  pub near : (id : ℕ) → id < 3 → ring_start y.state id ≤ 4095
  pub long : length x.store ≡ length y.store
  pub bytes : (id : ℕ) → id < 3 → pending_front x id ≡ pending_ring y id
  -- the arrays have the lengths that their types say
  pub three : length y.state.q ≡ 3
  pub eight : (id : ℕ) → id < 3 → length (queue_of (front_of y.state) id).left ≡ 8

-- a call answers the same in both: number, packets, spares, filler and the whole output after it; and leaves such desks
pub record SameCall (a : Act) (x : KeptDesk) (y : RingDesk) : Type 0 where
  pub answer : answer_ring a y ≡ answer_kept a x
  pub desks : Same (after_kept a x) (after_ring a y)

-- and so does a run of calls, at each of them
pub record SameRun (acts : List Act) (x : KeptDesk) (y : RingDesk) : Type 0 where
  pub answers : answers_ring acts y ≡ answers_kept acts x
  pub desks : Same (run_kept acts x) (run_ring acts y)

-- the place in the store of byte j behind the bytes that queue id of a desk has yet to send
abbrev pub place_behind : RingDesk → ℕ → ℕ → ℕ
place_behind y id j = id * 4096 + (ring_start y.state id + unsent (queue_of (front_of y.state) id) + j) % 4096

-- what an accepted load writes: each byte of the unit in its place, and nothing else
pub record Writes (id : ℕ) (unit : List ℕ) (y : RingDesk) (after : List ℕ) : Type 0 where
  pub long : length after ≡ length y.store
  pub own : (j : ℕ) → j < length unit → get_or after (place_behind y id j) 0 ≡ get_or unit j 0
  pub other : (i : ℕ) → ((j : ℕ) → j < length unit → i ≡ place_behind y id j → ⊥) → get_or after i 0 ≡ get_or y.store i 0

pub record RingsAreSame : Type 0 where
  -- from any two such desks, whatever settings, p, counts and faults of the state
  pub call : (a : Act) (x : KeptDesk) (y : RingDesk) → Same x y → SameCall a x y
  pub run : (acts : List Act) (x : KeptDesk) (y : RingDesk) → Same x y → SameRun acts x y
  -- from fresh with any two stores of one length; p may change on the way
  pub fresh : (acts : List Act) (s t : List ℕ) → length s ≡ length t → SameRun acts (fresh_kept_desk s) (fresh_ring_desk t)
  -- a start past 4,095: 13 if the settings are refused, else 17
  pub strayed : (a : Act) (y : RingDesk) (id : ℕ) → id < 3 → 4095 < ring_start y.state id → (answer_ring a y).number ≡ pick (eqb (settings_for (settings_of a)) 0) 17 13
  -- what a call does to the store: a frame nothing, an accepted load just the unit's bytes, a refused call nothing, and it leaves the state too
  pub frames : (g : Settings) (out : List ℕ) (y : RingDesk) → (after_ring (frame g out) y).store ≡ y.store
  pub loads : (g : Settings) (id : ℕ) (unit : List ℕ) (y : RingDesk) → (answer_ring (load g id unit) y).number ≡ 0 → Writes id unit y (after_ring (load g id unit) y).store
  pub refused : (a : Act) (y : RingDesk) → ((answer_ring a y).number ≡ 0 → ⊥) → after_ring a y ≡ y

-- the bytes left of each unit of queue id, read from its ring
abbrev pub left_in_ring : RingDesk → ℕ → List (List ℕ)
left_in_ring y id = content_of (queue_of (front_of y.state) id) (ring_of y.state.start y.store id)

-- what is pending of queue id stands in the store: of the desk y that a run has left, and of its calls and what each answered
pub record Pending (p id : ℕ) (es : List Event) (y : RingDesk) : Type 0 where
  -- its ring holds the units that were accepted and are not yet wholly sent, as one knows them who sees only the calls and their answers
  pub left : left_in_ring y id ≡ left_of p id es
  -- where every packet was given in order to a fresh receiver: the units that it delivered, and behind them those of the ring, the first of them
  -- together with the bytes that the receiver holds of it, are what was accepted
  pub all : (buffer : List ℕ) → length buffer ≡ 16384
      → delivered_in p id es buffer ++ wholes (line_at (hear_all p (fresh_ear buffer) (sent_of es)) id) (left_in_ring y id) ≡ accepted_of id es

-- from fresh where p stands
abbrev pub PendingStands : Type 0
PendingStands = (p : ℕ) (acts : List Act) (store : List ℕ) → length store ≡ 12288 → Stands p (log_ring acts (fresh_ring_desk store)) → (id : ℕ) → id < 3
    → Pending p id (log_ring acts (fresh_ring_desk store)) (run_ring acts (fresh_ring_desk store))
