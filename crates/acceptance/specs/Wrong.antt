-- The wrong programs that 01 lists ("Acceptance of the promises"), each as a condition on a function from what a call is handed to its answer
-- and the lent memory after it; and what it is for such a function to meet the promise of the call. The answer of a call that gives a `Result` is
-- taken in 01's numbers and values; the last part says the same of those calls as they stand. Assumes nothing.
use Rattle.std.specs.Prelude.{ℕ, ◌+◌, ◌<◌, ◌≡◌, List, length, take, Result}
use Rattle.laws.specs.Written.{written}
use Rattle.demand.specs.Bytes.{split, of_id}
use Rattle.dispersal.specs.Dispersal as dispersal
use Rattle.hand.specs.Settings.{at}
use Rattle.hand.specs.declared.Settings.{Settings}
use Rattle.mdi.specs.declared.Answer.{Answer}
use Rattle.mdi.specs.Reading.{read_in, read_for}
use Rattle.packet.specs.Packet.{decode}
use Rattle.receiver.specs.Answer as heard
use Rattle.receiver.specs.Answer.{Nothing, Delivered, Refused, Told, told_of}
use Rattle.receiver.specs.declared.Told as step
use Rattle.receiver.specs.declared.Receiver.{Receiver}
use Rattle.receiver.specs.Receiver.{buffer_for}
use Rattle.receiver.specs.Dropped.{told_for}
use Rattle.record.specs.declared.Record.{Record}
use Rattle.refusal.specs.Refusal.{number_in}
use Rattle.refusal.specs.declared.Refusal.{Refusal}
use Rattle.refusal.specs.declared.Refused as placed
use Rattle.sender.specs.declared.Framed.{Framed}
use Rattle.sender.specs.declared.Loaded.{Loaded}
use Rattle.sender.specs.declared.Sender.{Sender}
use Rattle.sender.specs.State.{queue_of}
use Rattle.sender.specs.Rings.{front_of, ring_load_for, ring_store_for, ring_frame_for, ring_frame_out}

-- ---- reading an MDI packet
abbrev pub Reader : Type 0
Reader = List ℕ → Answer

abbrev pub Reads : Reader → Type 0
Reads f = (packet : List ℕ) → f packet ≡ read_for packet

-- a reader that refuses everything
abbrev pub RefusesAll : Reader → Type 0
RefusesAll f = (packet : List ℕ) → (f packet).number ≡ 0 → ⊥

-- one fixed record for all packets that it takes
abbrev pub OneRecord : Reader → Type 0
OneRecord f = (x y : List ℕ) → (f x).number ≡ 0 → (f y).number ≡ 0 → (f x).content ≡ (f y).content

-- ---- dispersal: input and output before it; number and output after it
abbrev pub Disperser : Type 0
Disperser = List ℕ → List ℕ → ℕ × List ℕ

abbrev pub Disperses : Disperser → Type 0
Disperses f = (input output : List ℕ) → ((f input output).0 ≡ dispersal.number_for input output) × ((f input output).1 ≡ dispersal.output_for input output)

-- dispersal that copies
abbrev pub Copies : Disperser → Type 0
Copies f = (input output : List ℕ) → (f input output).0 ≡ 0 → (f input output).1 ≡ written output 0 input

-- ---- receiving: p, the record, the packet, the buffer before it; answer with the record, and the buffer after it
abbrev pub Listener : Type 0
Listener = ℕ → Receiver → List ℕ → List ℕ → Told × List ℕ

abbrev pub Receives : Listener → Type 0
Receives f = (p : ℕ) (r : Receiver) (packet buffer : List ℕ) →
    ((f p r packet buffer).0 ≡ told_for p r packet (length buffer)) × ((f p r packet buffer).1 ≡ buffer_for p r packet buffer)

abbrev pub is_unit : heard.Answer → Type 0
is_unit Nothing = ⊥
is_unit (Delivered id n) = Unit {0}
is_unit (Refused number) = ⊥

-- a receiver that never delivers
abbrev pub NeverDelivers : Listener → Type 0
NeverDelivers f = (p : ℕ) (r : Receiver) (packet buffer : List ℕ) → is_unit (f p r packet buffer).0.answer → ⊥

-- ---- loading: settings, state, id, unit, store before it; answer and store after it
abbrev pub Loader : Type 0
Loader = Settings → Sender → ℕ → List ℕ → List ℕ → Loaded × List ℕ

abbrev pub Loads : Loader → Type 0
Loads f = (g : Settings) (s : Sender) (id : ℕ) (unit store : List ℕ) →
    ((f g s id unit store).0 ≡ ring_load_for g s id unit store) × ((f g s id unit store).1 ≡ ring_store_for g s id unit store)

-- a loader that takes no unit, whatever it counts
abbrev pub TakesNone : Loader → Type 0
TakesNone f = (g : Settings) (s : Sender) (id : ℕ) (unit store : List ℕ) → front_of (f g s id unit store).0.next ≡ front_of s

-- ---- a frame: settings, state, store and output before it; answer and output after it
abbrev pub Framer : Type 0
Framer = Settings → Sender → List ℕ → List ℕ → Framed × List ℕ

abbrev pub Frames : Framer → Type 0
Frames f = (g : Settings) (s : Sender) (store out : List ℕ) →
    ((f g s store out).0 ≡ ring_frame_for g s store out) × ((f g s store out).1 ≡ ring_frame_out g s store out)

-- the id of a frame's first packet: filler comes last, so a frame that begins with id 3 holds nothing else
abbrev pub first_id : ℕ → List ℕ → ℕ
first_id p frame = (decode p (take (p + 3) frame)).id

-- a sender of nothing but filler
abbrev pub OnlyFiller : Framer → Type 0
OnlyFiller f = (g : Settings) (s : Sender) (store out : List ℕ) → (f g s store out).0.number ≡ 0 → first_id g.p (f g s store out).1 ≡ 3

-- what the next call gives, handed the state and the output that this one left, and the same store
abbrev pub again : Framer → Settings → Sender → List ℕ → List ℕ → Framed × List ℕ
again f g s store out = f g (f g s store out).0.next store (f g s store out).1

-- one that serves its first frame and sends filler after
abbrev pub ThenFiller : Framer → Type 0
ThenFiller f = (g : Settings) (s : Sender) (store out : List ℕ) → (f g s store out).0.number ≡ 0 → first_id g.p (again f g s store out).1 ≡ 3

-- one that serves its first frame and refuses after
abbrev pub ThenRefuses : Framer → Type 0
ThenRefuses f = (g : Settings) (s : Sender) (store out : List ℕ) → (f g s store out).0.number ≡ 0 → (again f g s store out).0.number ≡ 0 → ⊥

-- the arrays of a state are as long as their types say: three queues of eight places
abbrev pub Shaped : Sender → Type 0
Shaped s = (length s.q ≡ 3) × ((id : ℕ) → id < 3 → length (queue_of (front_of s) id).left ≡ 8)

-- the packets of an id in a frame of N packets, read one by one
abbrev pub held_by : Settings → ℕ → List ℕ → ℕ
held_by g id frame = length (of_id g.p id (split (g.p + 3) g.n frame))

-- the reported packets of each queue and the reported filler are those of its own output
abbrev pub Counts : Framer → Type 0
Counts f = (g : Settings) (s : Sender) (store out : List ℕ) → Shaped s → (f g s store out).0.number ≡ 0 →
    ((id : ℕ) → id < 3 → at (f g s store out).0.packets id ≡ held_by g id (f g s store out).1) × ((f g s store out).0.filler ≡ held_by g 3 (f g s store out).1)

-- packet counts invented: they are not those
abbrev pub Invents : Framer → Type 0
Invents f = Counts f → ⊥

-- ---- the same for the calls as they stand in src/, whose answer is a `Result`. `reader_of f` is the call f with its answer told in 01's number, place
-- and record; so are the other two. What such a function has to meet is what the call's `ensures` says of the whole answer and of lent memory.
abbrev pub ReadCall : Type 0
ReadCall = List ℕ → Result Record placed.Refused

abbrev pub reader_of : ReadCall → Reader
reader_of f packet = read_in (f packet)

abbrev pub DisperseCall : Type 0
DisperseCall = List ℕ → List ℕ → Result (Unit {0}) Refusal × List ℕ

abbrev pub disperser_of : DisperseCall → Disperser
disperser_of f input output = (number_in (f input output).0, (f input output).1)

abbrev pub StepCall : Type 0
StepCall = ℕ → Receiver → List ℕ → List ℕ → step.Told × List ℕ

abbrev pub listener_of : StepCall → Listener
listener_of f p r packet buffer = (told_of (f p r packet buffer).0, (f p r packet buffer).1)

-- a call that meets its promise is none of the wrong programs of its kind
pub record Rejected : Type 0 where
  pub refuser : (f : ReadCall) → Reads (reader_of f) → RefusesAll (reader_of f) → ⊥
  pub fixed_record : (f : ReadCall) → Reads (reader_of f) → OneRecord (reader_of f) → ⊥
  pub copier : (f : DisperseCall) → Disperses (disperser_of f) → Copies (disperser_of f) → ⊥
  pub silent : (f : StepCall) → Receives (listener_of f) → NeverDelivers (listener_of f) → ⊥
