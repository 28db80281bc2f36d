-- What E5 of 02 adds to delivery, of a run in which p stands: every packet is given in order to a fresh receiver with a buffer of 16,384
-- bytes, and then none is refused, nothing is dropped, and nothing skipped. Assumes nothing.
use Rattle.std.specs.Prelude.{ℕ, ◌≡◌, List, ◌∷◌, ◌++◌, length}
use Rattle.receiver.specs.Receiver.{step_number}
use Rattle.receiver.specs.Dropped.{told_for}
use Rattle.receiver.specs.Skipped.{skipped_for}
use Rattle.demand.specs.Log.{Event, sent_of}
use Rattle.delivery.specs.Delivered.{Ear, fresh_ear, hear_all}

-- of packet s at a receiver: it is not refused, the step reports no dropped byte, and skips none
pub record Kept (p : ℕ) (e : Ear) (s : List ℕ) : Type 0 where
  pub accepted : step_number p e.receiver s (length e.buffer) ≡ 0
  pub dropped : (told_for p e.receiver s (length e.buffer)).dropped ≡ 0
  pub skipped : skipped_for p e.receiver s (length e.buffer) ≡ 0

-- of every packet s of a run, given behind those before it
abbrev pub AllKept : ℕ → List Event → List ℕ → Type 0
AllKept p es buffer = (before behind : List (List ℕ)) (s : List ℕ) → sent_of es ≡ before ++ (s ∷ behind) → Kept p (hear_all p (fresh_ear buffer) before) s
