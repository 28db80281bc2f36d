-- B10: a recording gives back the packets that it was made of, in order, one call each, and then its end; and nothing else stands in it
-- (01, "Clock and recordings"). Block by block: crates/walk/specs/Whole.antt. Assumes nothing.
use Rattle.std.specs.Prelude.{ℕ, ◌≤◌, ◌≡◌, List, length, take}
use Rattle.laws.specs.Big.{Bytes}
use Rattle.recording.specs.Recording.{recording_of, opened_for, started_for, start_output}
use Rattle.recording.specs.Walk.{Walks, Short, Holds, filled}

-- a buffer after `start` and one `append` for each of these packets
abbrev pub recorded_in : List ℕ → List (List ℕ) → List ℕ
recorded_in out ps = filled (start_output out) (started_for out).length ps

-- the file opens, and the walk from its first entry gives these packets
pub record Gives (file : List ℕ) (ps : List (List ℕ)) : Type 0 where
  pub opens : opened_for file ≡ record { number = 0; place = 0; first = 1 }
  pub walks : Walks file 1 ps

pub record Walked : Type 0 where
  -- the recording of packets, none of them over 65,528 bytes, gives them back
  pub back : (ps : List (List ℕ)) → Short ps → Gives (recording_of ps) ps
  -- the calls leave it at the front of a buffer that has room for it, so what they leave gives them back too
  pub holds : (out : List ℕ) (ps : List (List ℕ)) → Short ps → length (recording_of ps) ≤ length out
      → Holds (recorded_in out ps) (length (recording_of ps)) ps
  pub written : (out : List ℕ) (ps : List (List ℕ)) → Short ps → length (recording_of ps) ≤ length out
      → Gives (take (length (recording_of ps)) (recorded_in out ps)) ps
  -- a walk gives one list of packets only
  pub once : (file : List ℕ) (at : ℕ) (ps qs : List (List ℕ)) → Walks file at ps → Walks file at qs → ps ≡ qs
  -- a file that opens and walks to its end is the recording of the packets that it gave, each within the limit
  pub whole : (file : List ℕ) (ps : List (List ℕ)) → Bytes file → (opened_for file).number ≡ 0 → Walks file 1 ps → (file ≡ recording_of ps) × Short ps
