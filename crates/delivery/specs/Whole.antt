-- The units of an id over a run, of its calls and what each answered: wholly sent, delivered, or not yet. Assumes nothing.
use Rattle.std.specs.Prelude.{ℕ, ◌-◌, List, [], ◌∷◌, ◌++◌, length, take}
use Rattle.receiver.specs.Line.{Line}
use Rattle.demand.specs.Log.{Event, accepted_of, sent_of, left_of}
use Rattle.delivery.specs.Delivered.{line_at, fresh_ear, hear_all, delivered_of}

-- wholly sent: those accepted, but for those of which bytes are left
unfoldable pub wholly_sent : ℕ → ℕ → List Event → List (List ℕ)
wholly_sent p id es = take (length (accepted_of id es) - length (left_of p id es)) (accepted_of id es)

-- delivered, where every packet was given in order to a fresh receiver
abbrev pub delivered_in : ℕ → ℕ → List Event → List ℕ → List (List ℕ)
delivered_in p id es buffer = delivered_of p id (fresh_ear buffer) (sent_of es)

-- unfinished units, whole: what the receiver holds of the first, and what is left of it
unfoldable pub wholes : Line → List (List ℕ) → List (List ℕ)
wholes l [] = []
wholes l (u ∷ us) = (l.bytes ++ u) ∷ us

-- not yet delivered
abbrev pub pending_in : ℕ → ℕ → List Event → List ℕ → List (List ℕ)
pending_in p id es buffer = wholes (line_at (hear_all p (fresh_ear buffer) (sent_of es)) id) (left_of p id es)
