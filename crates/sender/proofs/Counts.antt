-- How the counts are kept: a unit adds its packets, a packet sent takes one off, and no count is over the bytes. Assumes nothing.
use Prim.Native.Nat.{ℕ, zero, suc, ◌+◌, ◌-◌, ◌≤◌, ◌<◌}
use mathlib.Core.Path.{◌≡◌, ap, ◌∙◌}
use mathlib.Core.List.{List, [], ◌∷◌}
use native.Mathlib.Omega.{arith}
use lib.ListN.{length}
use Rattle.queue.specs.Queue.{add_up, same, packets, units, unsent, waits, waiting, pushed}
use Rattle.queue.specs.Send.{send}
use Rattle.queue.specs.declared.Queue.{Queue}
use Rattle.queue.proofs.Sums.{add_up_append, over_bytes}
use Rattle.queue.proofs.Sending.{waits_send}
use Rattle.queue.proofs.Taken.{pop_at}
use Rattle.queue.proofs.Keep.{pushed_units}
use Rattle.row.specs.Row.{steps, stepped}
use Rattle.row.specs.Private.{InRegion}
use Rattle.row.specs.declared.Out.{Out}
use Rattle.row.proofs.Steps.{sound_in, whole_steps}

-- ---- a unit more
pub pushed_waiting : (p : ℕ) (q : Queue) (n : ℕ) → length q.left ≡ 8 → q.count < 8 → waiting p (pushed q n) ≡ waiting p q + packets p n
unfolding waiting waits add_up
pushed_waiting p q n e h = ap (add_up (packets p)) (pushed_units q n e h) ∙ add_up_append (packets p) (units q) (n ∷ []) ∙ omega arith

-- ---- n packets less
pub sent_waiting : (p n : ℕ) (o : Out) → 1 ≤ p → InRegion p o 4096 → waiting p (steps p n o).q ≡ waiting p o.q - n
unfolding waiting steps stepped send
sent_waiting p zero o hp w = omega arith
sent_waiting p (suc n) o hp w =
    let s = sound_in p 4096 (steps p n o) (whole_steps p 4096 n o hp w) in
    let e : waits p (units (steps p (suc n) o).q) ≡ waits p (send p 1 (units (steps p n o).q)) =
    ap (waits p) (pop_at p (steps p n o).q s.eight s.count).list in
    omega (arith, e, waits_send p hp 1 (units (steps p n o).q) s.pos, sent_waiting p n o hp w)

-- ---- no more packets than bytes
packets_bytes : (p x : ℕ) → 1 ≤ p → packets p x ≤ x
unfolding packets
packets_bytes p x h = over_bytes p x h

waits_bytes : (p : ℕ) (xs : List ℕ) → 1 ≤ p → add_up (packets p) xs ≤ add_up same xs
unfolding add_up
waits_bytes p [] h = omega arith
waits_bytes p (x ∷ xs) h = omega (arith, packets_bytes p x h, waits_bytes p xs h)

pub waiting_unsent : (p : ℕ) (q : Queue) → 1 ≤ p → waiting p q ≤ unsent q
unfolding waiting waits unsent
waiting_unsent p q h = waits_bytes p (units q) h
