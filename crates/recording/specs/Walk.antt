-- Walking a recording, and filling a lent buffer with one, call after call (01, "Clock and recordings"). Assumes nothing.
use Rattle.std.specs.Prelude.{ℕ, ◌+◌, ◌≤◌, ◌≡◌, List, [], ◌∷◌, length, take}
use Rattle.laws.specs.Limits.{longest}
use Rattle.recording.specs.Answers.{Entry, End}
use Rattle.recording.specs.Recording.{recording_of, step_for, packet_for, grown_for, output_for}

-- from this offset on each call gives one of the packets, in order, and the call after the last gives the end
abbrev pub Walks : List ℕ → ℕ → List (List ℕ) → Type 0
Walks file at [] = step_for file at ≡ End
Walks file at (p ∷ ps) =
    (step_for file at ≡ Entry (at + 4) (length p) (at + 4 + length p)) × ((packet_for file at ≡ p) × Walks file (at + 4 + length p) ps)

-- no packet is over 65,528 bytes
abbrev pub Short : List (List ℕ) → Type 0
Short [] = Unit {0}
Short (p ∷ ps) = (length p ≤ longest) × Short ps

-- the front of a buffer is the recording of these packets
pub record Holds (buffer : List ℕ) (len : ℕ) (ps : List (List ℕ)) : Type 0 where
  pub fits : len ≤ length buffer
  pub front : take len buffer ≡ recording_of ps

-- the buffer after these packets were appended, each where the call before said that the recording ends
abbrev pub filled : List ℕ → ℕ → List (List ℕ) → List ℕ
filled buffer at [] = buffer
filled buffer at (p ∷ ps) = filled (output_for p buffer at) (grown_for p buffer at).length ps
