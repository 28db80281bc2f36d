-- A row reads only bytes not yet sent. Assumes nothing.
use Prim.Native.Nat.{ℕ, zero, suc, ◌+◌, ◌≤◌}
use mathlib.Core.Path.{◌≡◌, refl, sym, ap, ap₂, ◌∙◌}
use mathlib.Core.List.{List, ◌++◌}
use native.Mathlib.Omega.{arith}
use lib.Dec.{eqb, leb}
use lib.ListN.{length, get_or, take, drop, length-take}
use lib.Seq.{take-take}
use Rattle.packet.specs.Packet.{packet_of, encode}
use Rattle.queue.specs.Queue.{units}
use Rattle.queue.proofs.Taken.{head_len_le}
use Rattle.row.specs.Row.{head_len, packet_at, steps, outs}
use Rattle.row.specs.Private.{InRegion}
use Rattle.row.specs.declared.Out.{Out}
use Rattle.row.proofs.Steps.{whole_steps}
use Rattle.demand.proofs.Content.{take_drop}

-- a piece of the first m bytes
pub piece_within : (m a h : ℕ) (r : List ℕ) → a + h ≤ m → m ≤ length r → take h (drop a (take m r)) ≡ take h (drop a r)
piece_within m a h r l lr =
    take_drop h a (take m r) (omega (arith, length-take m r)) ∙ ap (drop a) (take-take (a + h) m r l) ∙ sym (take_drop h a r (omega arith))

-- n packets, where all that is left is within them
module _ (p id m : ℕ) (r : List ℕ) (lr : m ≤ length r) where
  packet_within : (o : Out) → InRegion p o m → packet_at p id (take m r) o ≡ packet_at p id r o
  unfolding packet_at
  packet_within o w =
      ap (λ (b : List ℕ). encode p (packet_of (eqb o.q.sent 0) (leb (get_or (units o.q) 0 0) p) id o.index b))
      (piece_within m o.at (head_len p o.q) r (omega (arith, w.inside, head_len_le p o.q)) lr)

  pub outs_within : (n : ℕ) (o : Out) → 1 ≤ p → InRegion p o m → outs p id (take m r) n o ≡ outs p id r n o
  unfolding outs
  outs_within zero o hp w = refl
  outs_within (suc n) o hp w =
      ap₂ (λ (a b : List ℕ). a ++ b) (outs_within n o hp w) (packet_within (steps p n o) (whole_steps p m n o hp w))
