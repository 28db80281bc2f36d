-- Runs of calls (01, "Packets, queues and receiver"): each is handed the state and the store that the last one left. A refused call
-- changes nothing. Assumes nothing.
use Rattle.std.specs.Prelude.{ℕ, ◌≡◌, List, [], ◌∷◌}
use Rattle.hand.specs.Hand.{no_three}
use Rattle.hand.specs.declared.Three.{Three}
use Rattle.hand.specs.declared.Settings.{Settings}
use Rattle.sender.specs.State.{fresh}
use Rattle.sender.specs.Load.{load_number, load_for, store_for}
use Rattle.sender.specs.Frame.{frame_number, frame_for, store_after, frame_out}
use Rattle.sender.specs.declared.Front.{Front}

-- a call, with what is newly handed in: its settings, and a unit for queue id or an output
pub data Act : Type 0 where
  load : (g : Settings) (id : ℕ) (unit : List ℕ) → Act
  frame : (g : Settings) (out : List ℕ) → Act

-- what the calls hand on
pub record Desk : Type 0 where
  pub state : Front
  pub store : List ℕ

abbrev pub fresh_desk : List ℕ → Desk
fresh_desk store = record { state = fresh; store = store }

abbrev pub settings_of : Act → Settings
settings_of (load g id unit) = g
settings_of (frame g out) = g

-- the number that a call gives back
unfoldable pub number_of : Act → Desk → ℕ
number_of (load g id unit) x = load_number g x.state id unit x.store
number_of (frame g out) x = frame_number g x.state x.store out

-- the state and the store after a call, and after a run of calls
unfoldable pub after : Act → Desk → Desk
after (load g id unit) x =
    record { state = (load_for g x.state id unit x.store).next; store = store_for g x.state id unit x.store }
after (frame g out) x = record { state = (frame_for g x.state x.store out).next; store = store_after g x.state x.store out }

unfoldable pub run : List Act → Desk → Desk
run [] x = x
run (a ∷ rest) x = run rest (after a x)

-- p is the same in every call
abbrev pub Steady : ℕ → List Act → Type 0
Steady p [] = Unit {0}
Steady p (a ∷ rest) = ((settings_of a).p ≡ p) × Steady p rest

-- ---- what the caller sees
-- of a call: its number, and of a frame what it reports and the output
pub record Answer : Type 0 where
  pub number : ℕ
  pub packets : Three
  pub spares : ℕ
  pub filler : ℕ
  pub out : List ℕ

unfoldable pub answer : Act → Desk → Answer
answer (load g id unit) x =
    record { number = (load_for g x.state id unit x.store).number; packets = no_three; spares = 0; filler = 0; out = [] }
answer (frame g out) x =
    let f = frame_for g x.state x.store out in
    record { number = f.number; packets = f.packets; spares = f.spares; filler = f.filler; out = frame_out g x.state x.store out }

-- of a run
unfoldable pub answers : List Act → Desk → List Answer
answers [] x = []
answers (a ∷ rest) x = answer a x ∷ answers rest (after a x)
