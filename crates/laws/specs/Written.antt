-- A lent buffer after a write: the bytes written stand at their offset, and all others are as they were (01, "Numbers given back": "On
-- success, output bytes past the reported length stay the same"). Assumes nothing.
use Rattle.std.specs.Prelude.{List, ◌++◌, ℕ, ◌+◌, leb, length, take, drop}
use Rattle.laws.specs.Pick.{pick}

-- d with xs at the offset at
unfoldable pub written : List ℕ → ℕ → List ℕ → List ℕ
written d at xs = take at d ++ (xs ++ drop (at + length xs) d)

-- a call that writes where it has the room it asks for: with so many bytes of d from the offset on, xs stands there; else d is as it was
abbrev pub written_in : ℕ → List ℕ → ℕ → List ℕ → List ℕ
written_in room d at xs = pick (leb (at + room) (length d)) (written d at xs) d

-- and the offset behind xs; the offset itself where nothing was written
abbrev pub next_in : ℕ → List ℕ → ℕ → List ℕ → ℕ
next_in room d at xs = pick (leb (at + room) (length d)) (at + length xs) at
