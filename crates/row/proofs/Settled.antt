-- Each promise settles its call: two outcomes that meet it for the same input are equal (01, "Acceptance of the promises"). An input is p, id,
-- the number of packets, the queue, the index, the ring, its start, and the output before the call. Assumes nothing.
use Prim.Native.Nat.{ℕ}
use mathlib.Core.Path.{◌≡◌}
use mathlib.Core.List.{List}
use lib.ListN.{length}
use Rattle.laws.specs.Settle.{Settles}
use Rattle.laws.proofs.Settle.{settled_both}
use Rattle.queue.specs.declared.Queue.{Queue}
use Rattle.ring.specs.Ring.{turned}
use Rattle.row.specs.declared.Out.{Out}
use Rattle.row.specs.Row.{row_for, row_out}

pub row : Settles (λ (i : ℕ × ℕ × ℕ × Queue × ℕ × List ℕ × ℕ × List ℕ) (o : Out × List ℕ).
    (o.0 ≡ row_for i.0 i.1 i.2 i.3 i.4 (length i.5) (length i.7))
    × (o.1 ≡ row_out i.0 i.1 i.2 i.3 i.4 (turned i.6 i.5) i.7))
row =
    settled_both (λ i. row_for i.0 i.1 i.2 i.3 i.4 (length i.5) (length i.7))
    (λ i. row_out i.0 i.1 i.2 i.3 i.4 (turned i.6 i.5) i.7)
