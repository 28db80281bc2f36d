-- One queue of units (01, "Packets, queues and receiver"), as the numbers of its state. Assumes nothing.
use Rattle.std.specs.Prelude.{ℕ, ◌+◌, ◌-◌, ◌/◌, ◌%◌, List, [], ◌∷◌, Bool, false, not, ◌&&◌, ◌||◌, ltb, eqb, set, take, replicate}
use Rattle.laws.specs.Pick.{pick}
use Rattle.queue.specs.declared.Queue.{Queue}

-- f of each, added up
unfoldable pub add_up : (ℕ → ℕ) → List ℕ → ℕ
add_up f [] = 0
add_up f (x ∷ xs) = f x + add_up f xs

abbrev pub same : ℕ → ℕ
same x = x

-- k over s, rounded up
abbrev pub over : ℕ → ℕ → ℕ
over k s = (k + (s - 1)) / s

-- the packets of p data bytes that x bytes take
unfoldable pub packets : ℕ → ℕ → ℕ
packets p x = over x p

-- and that units take of which these bytes are left
unfoldable pub waits : ℕ → List ℕ → ℕ
waits p xs = add_up (packets p) xs

-- the bytes left of each unit, in the order of loading
abbrev pub units : Queue → List ℕ
units q = take q.count q.left

unfoldable pub unsent : Queue → ℕ
unsent q = add_up same (units q)

unfoldable pub waiting : ℕ → Queue → ℕ
waiting p q = waits p (units q)

-- the lengths of units, of which these bytes are left and so many of the first are sent
unfoldable pub lengths : ℕ → List ℕ → List ℕ
lengths sent [] = []
lengths sent (x ∷ xs) = (x + sent) ∷ xs

unfoldable pub any_empty : List ℕ → Bool
any_empty [] = false
any_empty (x ∷ xs) = eqb x 0 || any_empty xs

unfoldable pub any_over : ℕ → List ℕ → Bool
any_over n [] = false
any_over n (x ∷ xs) = ltb n x || any_over n xs

-- refusal 17: over eight units; a unit with no byte left; one over 4,096 long; over 4,096 unsent; sent bytes not a multiple of p, or
-- where no unit is first
unfoldable pub broken : ℕ → Queue → Bool
broken p q =
    ltb 8 q.count || any_empty (units q) || any_over 4096 (lengths q.sent (units q)) || ltb 4096 (unsent q) || not (eqb (q.sent % p) 0)
    || (eqb q.count 0 && ltb 0 q.sent)

abbrev pub no_units : Queue
no_units = record { left = replicate 8 0; count = 0; sent = 0 }

-- one unit of n bytes more, where there are fewer than eight
unfoldable pub pushed : Queue → ℕ → Queue
pushed q n = pick (ltb q.count 8) (record { left = set q.left q.count n; count = q.count + 1; sent = q.sent }) q
