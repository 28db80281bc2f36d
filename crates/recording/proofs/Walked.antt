-- B10, from Walk.antt, Filling.antt and Whole.antt. Assumes nothing.
use Prim.Native.Nat.{ℕ, ◌≤◌}
use mathlib.Core.List.{List}
use lib.ListN.{length, take}
use Rattle.recording.specs.Recording.{recording_of}
use Rattle.recording.specs.Walk.{Short}
use Rattle.recording.specs.Walked.{recorded_in, Gives, Walked}
use Rattle.recording.proofs.Walk.{walked, opened, walks_once}
use Rattle.recording.proofs.Filling.{recorded}
use Rattle.recording.proofs.Whole.{walked_short, whole}

back : (ps : List (List ℕ)) → Short ps → Gives (recording_of ps) ps
back ps s = record { opens = opened ps; walks = walked ps s }

written_back : (out : List ℕ) (ps : List (List ℕ)) → Short ps → length (recording_of ps) ≤ length out
    → Gives (take (length (recording_of ps)) (recorded_in out ps)) ps
written_back out ps s r = rw (recorded out ps s r).front (back ps s)

pub walked_back : Walked
walked_back = record {
  back = back;
  holds = recorded;
  written = written_back;
  once = walks_once;
  whole = λ file ps b e w. (whole file b ps e w, walked_short file b 1 ps w);
}
