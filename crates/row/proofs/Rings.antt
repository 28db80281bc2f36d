-- Packets whose bytes stand in a ring: the laws of a row, with the ring in its order for the region. Assumes nothing.
use Prim.Native.Nat.{ℕ, ◌+◌, ◌-◌, ◌%◌, ◌≤◌, ◌<◌}
use mathlib.Core.Path.{◌≡◌, sym, ap, ◌∙◌, subst}
use mathlib.Core.List.{List, ◌++◌}
use mathlib.Core.Bool.{Bool, true, false, not}
use native.Mathlib.Omega.{arith}
use borrow.Author.Tests.{le-leb}
use lib.Dec.{eqb, leb}
use lib.ListN.{length, get_or, take, drop, length-drop}
use lib.Seq.{take_at, take-append-le, length-take-le}
use Rattle.laws.specs.Written.{written}
use Rattle.packet.specs.Packet.{packet_of}
use Rattle.packet.specs.Calls.{out_for}
use Rattle.queue.specs.Queue.{units, unsent}
use Rattle.queue.specs.Taken.{pop_for}
use Rattle.queue.specs.declared.Queue.{Queue}
use Rattle.ring.specs.Ring.{turned, ahead, copied_out}
use Rattle.ring.proofs.Turned.{turned_length, turned_next}
use Rattle.row.specs.Row.{head_len, packet_at, stepped, steps, outs, start_of, fits, row_for, row_out}
use Rattle.row.specs.Private.{InRegion}
use Rattle.row.specs.declared.Out.{Out}
use Rattle.row.proofs.Steps.{step_is, row_none, row_done}

-- ---- the bytes of a packet: before the end
pub straight : (r : List ℕ) (at n k : ℕ) → n ≤ length r - at → k ≡ n → take k (drop at r) ≡ take n (turned at r)
unfolding turned
straight r at n k h e = ap (λ (m : ℕ). take m (drop at r)) e ∙ sym (take-append-le n (drop at r) (take at r) (omega (arith, length-drop at r)))

-- and around it
pub gathered : (r z body : List ℕ) (at n k : ℕ) → at ≤ length r → n ≤ length r → n ≤ length z → body ≡ copied_out r at n z → k ≡ n
    → take k (drop 0 body) ≡ take n (turned at r)
unfolding copied_out written
gathered r z body at n k ha hn hz e ek =
    let xs = take n (turned at r) in
    let lx : length xs ≡ n = length-take-le n (turned at r) (omega (arith, turned_length at r)) in
    let w : body ≡ xs ++ drop (0 + length xs) z = e ∙ simp (le-leb at (length r) ha, le-leb n (length r) hn, le-leb n (length z) hz) in
    ap (λ (m : ℕ). take m body) ek ∙ ap (take n) w ∙ take_at xs _ n lx

-- ---- a packet
pub ring_step : (p id w n x start : ℕ) (o : Out) (ring dst d : List ℕ) (r : Queue) (from : ℕ) → InRegion p o (length ring) → start ≤ length ring → x ≡ get_or (units o.q) 0 0
    → 1 ≤ p → p ≤ 255 → id < 4 → w ≡ p → n ≡ head_len w o.q → n ≤ unsent o.q → r ≡ pop_for p o.q → length dst ≡ p + 3 → from ≡ ahead (length ring) start o.at
    → d ≡ out_for w (packet_of (eqb o.q.sent 0) (leb x p) id o.index (take n (turned from ring))) dst
    → (◌≡◌ {A = Out} (record { q = r; at = o.at + n; index = (o.index + 1) % 8 }) (stepped p o)) × (d ≡ packet_at p id (turned start ring) o)
ring_step p id w n x start o ring dst d r from wh hs ex lo hi hid ew en hn er el ef ed =
    let i = wh.inside in
    let t : take n (turned from ring) ≡ take n (drop o.at (turned start ring)) =
    ap (λ (k : ℕ). take n (turned k ring)) ef ∙ sym (turned_next start o.at n ring hs (omega arith)) in
    step_is p id w n x o (turned start ring) dst d r ex lo hi hid wh.index ew en wh.far er el
    (ed ∙ ap (λ (b : List ℕ). out_for w (packet_of (eqb o.q.sent 0) (leb x p) id o.index b) dst) t)

-- the ring in its order is as long
module _ (p : ℕ) (o : Out) (start : ℕ) (ring : List ℕ) where
  pub whole_in : InRegion p o (length ring) → InRegion p o (length (turned start ring))
  whole_in = subst (InRegion p o) (sym (turned_length start ring))

  pub whole_out : InRegion p o (length (turned start ring)) → InRegion p o (length ring)
  whole_out = subst (InRegion p o) (turned_length start ring)

-- ---- the call
module _ (p id n : ℕ) (q : Queue) (index start : ℕ) (ring dst : List ℕ) (b : Bool) (e : b ≡ fits p id n q index (length ring) (length dst)) where
  there : b ≡ fits p id n q index (length (turned start ring)) (length dst)
  there = e ∙ ap (λ (k : ℕ). fits p id n q index k (length dst)) (sym (turned_length start ring))

  pub ring_none : not b ≡ true
      → (◌≡◌ {A = Out} (start_of q index) (row_for p id n q index (length ring) (length dst))) × (dst ≡ row_out p id n q index (turned start ring) dst)
  ring_none h =
      let k = row_none p id n q index (turned start ring) dst b there h in
      (k.0 ∙ ap (λ (m : ℕ). row_for p id n q index m (length dst)) (turned_length start ring), k.1)

  pub ring_done : not b ≡ false → (r : Out) (d : List ℕ) (w from : ℕ) → w ≡ p → r ≡ steps w n (start_of q index)
      → d ≡ written dst 0 (outs w id (turned from ring) n (start_of q index)) → turned from ring ≡ turned start ring
      → (r ≡ row_for p id n q index (length ring) (length dst)) × (d ≡ row_out p id n q index (turned start ring) dst)
  ring_done h r d w from ew er ed et =
      let k = row_done p id n q index (turned start ring) dst b there h r d w ew er (ed ∙ ap (λ (l : List ℕ). written dst 0 (outs w id l n (start_of q index))) et) in
      (k.0 ∙ ap (λ (m : ℕ). row_for p id n q index m (length dst)) (turned_length start ring), k.1)
