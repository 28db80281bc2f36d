-- Sending, one packet at a time. A queue is here the list of the bytes left of each of its units, in the order of loading. Only proofs
-- speak of it: no statement that people must believe names anything here. Assumes nothing.
use Rattle.std.specs.Prelude.{ℕ, zero, suc, ◌+◌, ◌-◌, ◌≤◌, min, List, [], ◌∷◌, ◌++◌, leb}
use Rattle.laws.specs.Pick.{pick}
use Rattle.queue.specs.Queue.{waits}

-- the queue after one packet of p bytes
unfoldable pub one : ℕ → List ℕ → List ℕ
one p [] = []
one p (x ∷ xs) = pick (leb x p) xs ((x - p) ∷ xs)

-- the queue after n packets
unfoldable pub send : ℕ → ℕ → List ℕ → List ℕ
send p zero xs = xs
send p (suc n) xs = one p (send p n xs)

-- no unit is empty
abbrev pub AllPos : List ℕ → Type 0
AllPos [] = Unit {0}
AllPos (x ∷ xs) = (1 ≤ x) × AllPos xs

-- what happened to one queue: a unit of so many bytes was accepted, or a frame with this share took so many packets
pub data Change : Type 0 where
  enters : (bytes : ℕ) → Change
  leaves : (share got : ℕ) → Change

-- the queue after these, in their order
unfoldable pub changed : ℕ → List Change → List ℕ → List ℕ
changed p [] xs = xs
changed p (enters x ∷ h) xs = changed p h (xs ++ (x ∷ []))
changed p (leaves s g ∷ h) xs = changed p h (send p g xs)

-- each unit has a byte; each frame took at least the smaller of share and what waited, and no more than waited
unfoldable pub Lawful : ℕ → List Change → List ℕ → Type 0
Lawful p [] xs = Unit {0}
Lawful p (enters x ∷ h) xs = (1 ≤ x) × Lawful p h (xs ++ (x ∷ []))
Lawful p (leaves s g ∷ h) xs = (min s (waits p xs) ≤ g) × (g ≤ waits p xs) × Lawful p h (send p g xs)

unfoldable pub shares : List Change → ℕ
shares [] = 0
shares (enters x ∷ h) = shares h
shares (leaves s g ∷ h) = s + shares h

unfoldable pub got : List Change → ℕ
got [] = 0
got (enters x ∷ h) = got h
got (leaves s g ∷ h) = g + got h

-- the units that were accepted meanwhile
unfoldable pub later : List Change → List ℕ
later [] = []
later (enters x ∷ h) = x ∷ later h
later (leaves s g ∷ h) = later h
