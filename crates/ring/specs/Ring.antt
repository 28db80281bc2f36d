-- Bytes that stand in a ring (02, E9): from a place on to the end, and on from the front. Assumes nothing.
use Rattle.std.specs.Prelude.{ℕ, ◌+◌, ◌-◌, List, ◌++◌, ◌&&◌, ltb, leb, length, take, drop}
use Rattle.laws.specs.Pick.{pick}
use Rattle.laws.specs.Written.{written}

-- all bytes of a ring in their order, from place s on. A place behind its end is its front
unfoldable pub turned : ℕ → List ℕ → List ℕ
turned s ring = drop s ring ++ take s ring

-- the ring with xs from place at on: what has no room before the end stands at the front
unfoldable pub around : List ℕ → ℕ → List ℕ → List ℕ
around ring at xs = written (written ring at (take (length ring - at) xs)) 0 (drop (length ring - at) xs)

-- the place a bytes on from place s of a ring of size bytes
unfoldable pub ahead : ℕ → ℕ → ℕ → ℕ
ahead size s a = pick (ltb (s + a) size) (s + a) (s + a - size)

-- ---- the calls
-- dst with n bytes of the ring at its front, those from place at on; dst as it is where there is no such place or no room
unfoldable pub copied_out : List ℕ → ℕ → ℕ → List ℕ → List ℕ
copied_out ring at n dst =
    pick (leb at (length ring) && (leb n (length ring) && leb n (length dst))) (written dst 0 (take n (turned at ring))) dst

-- the ring with xs from place at on; as it is where there is no such place or no room
unfoldable pub copied_in : List ℕ → ℕ → List ℕ → List ℕ
copied_in ring at xs = pick (leb at (length ring) && leb (length xs) (length ring)) (around ring at xs) ring
