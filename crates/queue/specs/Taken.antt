-- What the next packet of p data bytes takes of a queue, and what it leaves. Assumes nothing.
use Rattle.std.specs.Prelude.{ℕ, ◌+◌, ◌-◌, min, [], ◌∷◌, ◌++◌, ltb, leb, eqb, get_or, set, drop}
use Rattle.laws.specs.Pick.{pick}
use Rattle.queue.specs.declared.Queue.{Queue}

-- its useful bytes
unfoldable pub head_len : ℕ → Queue → ℕ
head_len p q = pick (eqb q.count 0) 0 (min (get_or q.left 0 0) p)

-- the queue without its first unit
unfoldable pub drop_first : Queue → Queue
drop_first q = record { left = drop 1 q.left ++ (0 ∷ []); count = q.count - 1; sent = 0 }

-- the queue without its next packet
unfoldable pub popped : ℕ → Queue → Queue
popped p q =
    pick (eqb q.count 0) q
    (pick (leb (get_or q.left 0 0) p) (drop_first q)
    (record { left = set q.left 0 (get_or q.left 0 0 - p); count = q.count; sent = q.sent + p }))

-- the call: a queue with more bytes sent than a unit has, which refusal 17 keeps out, stays as it is
unfoldable pub pop_for : ℕ → Queue → Queue
pop_for p q = pick (ltb 4096 q.sent) q (popped p q)
