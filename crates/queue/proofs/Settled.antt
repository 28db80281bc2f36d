-- Each promise settles its call: two outcomes that meet it for the same input are equal (01, "Acceptance of the promises"). An input is the
-- queue, and p, a stored count or the unit's bytes. Assumes nothing.
use Prim.Native.Nat.{ℕ}
use mathlib.Core.Path.{◌≡◌}
use mathlib.Core.Bool.{Bool}
use Rattle.laws.specs.Settle.{Settles}
use Rattle.laws.proofs.Settle.{settled}
use Rattle.queue.specs.Queue as queues
use Rattle.queue.specs.Stored.{wrong}
use Rattle.queue.specs.Taken.{head_len, pop_for}
use Rattle.queue.specs.declared.Queue.{Queue}

pub packets : Settles (λ (i : ℕ × ℕ) (r : ℕ). r ≡ queues.packets i.0 i.1)
packets = settled (λ i. queues.packets i.0 i.1)

pub fresh : Settles (λ (i : Unit {0}) (r : Queue). r ≡ queues.no_units)
fresh = settled (λ i. queues.no_units)

pub unsent : Settles (λ (q : Queue) (r : ℕ). r ≡ queues.unsent q)
unsent = settled queues.unsent

pub is_broken : Settles (λ (i : Queue × ℕ) (r : Bool). r ≡ queues.broken i.1 i.0)
is_broken = settled (λ i. queues.broken i.1 i.0)

pub is_wrong : Settles (λ (i : Queue × ℕ × ℕ) (r : Bool). r ≡ wrong i.1 i.0 i.2)
is_wrong = settled (λ i. wrong i.1 i.0 i.2)

pub pushed : Settles (λ (i : Queue × ℕ) (r : Queue). r ≡ queues.pushed i.0 i.1)
pushed = settled (λ i. queues.pushed i.0 i.1)

pub head_len_law : Settles (λ (i : Queue × ℕ) (r : ℕ). r ≡ head_len i.1 i.0)
head_len_law = settled (λ i. head_len i.1 i.0)

pub pop : Settles (λ (i : Queue × ℕ) (r : Queue). r ≡ pop_for i.1 i.0)
pop = settled (λ i. pop_for i.1 i.0)
