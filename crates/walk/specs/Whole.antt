-- A recording as a whole: the packets that `recording::next` gives, one call each, and what stands behind the last; and the same by its bytes as
-- they come in. proofs/Whole.antt has that both are the same (01, "Clock and recordings"). Assumes nothing.
use Rattle.std.specs.Prelude.{◌≡◌, ℕ, ◌+◌, List, [], ◌∷◌, length, drop}
use Rattle.cutting.specs.Sign.{Sign, More, Whole, Wrong}
use Rattle.recording.specs.Recording.{step_for, packet_for}
use Rattle.recording.specs.Answers.{Step, Entry, End, Refused}

-- from this offset on each call gives one of the packets, in order, and the call after the last gives this
abbrev pub WalksTo : List ℕ → ℕ → List (List ℕ) → Step → Type 0
WalksTo file at [] last = step_for file at ≡ last
WalksTo file at (p ∷ ps) last =
    (step_for file at ≡ Entry (at + 4) (length p) (at + 4 + length p)) × ((packet_for file at ≡ p) × WalksTo file (at + 4 + length p) ps last)

-- the packets of entries
abbrev pub packets_of : List (List ℕ) → List (List ℕ)
packets_of [] = []
packets_of (r ∷ rs) = drop 4 r ∷ packets_of rs

-- what stands at an offset behind the last entry: nothing, bytes of an entry that the end cuts, or one that is refused
abbrev pub last_of : Sign → List ℕ → ℕ → Step
last_of More [] at = End
last_of More (x ∷ rest) at = Refused 2 at
last_of Whole rest at = End
last_of (Wrong n) rest at = Refused n 0
