-- A frame out of rings and the same frame out of the layout of before. Assumes nothing.
use Prim.Native.Nat.{ℕ, zero, suc, ◌≤◌, ◌<◌}
use mathlib.Core.Path.{◌≡◌, refl, sym, ap, ap₂, ◌∙◌}
use mathlib.Core.List.{List}
use mathlib.Core.Bool.{Bool, true, false}
use native.Mathlib.Omega.{arith}
use borrow.Author.Tests.{eqb-true}
use lib.Dec.{eqb, lit<}
use lib.ListN.{length, take, drop}
use Rattle.laws.specs.Part.{part_of}
use Rattle.laws.specs.Pick.{pick}
use Rattle.laws.specs.Written.{written}
use Rattle.hand.specs.Settings.{at, Allowed}
use Rattle.hand.specs.Hand.{no_three}
use Rattle.hand.specs.declared.Three.{Three}
use Rattle.hand.specs.declared.Settings.{Settings}
use Rattle.hand.proofs.Allowed.{allowed}
use Rattle.queue.specs.Queue.{unsent}
use Rattle.ring.specs.Ring.{turned, ahead}
use Rattle.ring.proofs.Turned.{turned_next, ahead_modulo}
use Rattle.row.specs.Row.{outs}
use Rattle.row.specs.Private.{InRegion}
use Rattle.row.specs.declared.Out.{Out}
use Rattle.row.proofs.Steps.{whole_of, whole_steps}
use Rattle.sender.specs.State.{queue_of, out_of}
use Rattle.sender.specs.Frame.{hand_of, row_at, frame_packets, end_of, ends_of, next_from, closed_all, framed, frame_bytes}
use Rattle.sender.specs.Kept.{KeptFramed, kept, kept_frame_number, kept_framed, kept_frame_for, kept_frame_out, kept_store_after}
use Rattle.sender.specs.Rings.{front_of, kept_of, ring_start, ring_of, unrolled, start_after, ring_framed, ring_frame_for, ring_frame_out}
use Rattle.sender.specs.Private.{Fit}
use Rattle.sender.specs.declared.Front.{Front}
use Rattle.sender.specs.declared.Framed.{Framed}
use Rattle.sender.proofs.Unrolled.{part_length, ring_length, part_unrolled}
use Rattle.demand.specs.Run.{frame}
use Rattle.demand.proofs.Good.{Good, framed_good}
use Rattle.layers.specs.KeptRun.{plain, after_kept, answer_kept}
use Rattle.layers.specs.Run.{RingDesk, after_ring, answer_ring}
use Rattle.layers.specs.Rings.{Same}
use Rattle.layers.proofs.Reading.{piece_within, outs_within}
use Rattle.layers.proofs.Moved.{left_after}
use Rattle.layers.proofs.SameChecks.{beside, frame_number_law, frame_fits, good_here}

-- ---- a frame that is not refused
module _ (store : List ℕ) (y : RingDesk) (k : Same (beside store y) y) (g : Settings) (size : ℕ) (fit : Fit g (front_of y.state) (length store) size) where
  abbrev f : Front
  f = front_of y.state

  abbrev N : Three
  N = (hand_of g f).packets

  abbrev end : ℕ → Out
  end id = end_of g.p f id (at N id)

  al : Allowed g
  al = allowed g fit.allowed_in

  good : Good g.p (plain (beside store y))
  good = good_here store y k g.p fit.fine fit.whole

  full : length y.store ≡ 12288
  full = sym k.long ∙ fit.whole

  few : (id : ℕ) → id < 3 → unsent (queue_of f id) ≤ 4096
  few id h = (good.queues id h).bytes

  -- a row stays within the bytes that its queue has to send
  out_within : (id : ℕ) → id < 3 → InRegion g.p (out_of f id) (unsent (queue_of f id))
  out_within id h = let i = good.indexes id (omega arith) in whole_of g.p (unsent (queue_of f id)) (out_of f id) (good.queues id h) (omega arith) (omega arith)

  -- ---- the bytes written
  row_same : (id n : ℕ) → id < 3 → row_at g.p f (unrolled y.state.start y.store) id n ≡ row_at g.p f store id n
  unfolding row_at
  row_same id n h =
      let m = unsent (queue_of f id) in
      let b = few id h in
      let ring = ring_of y.state.start y.store id in
      let read : (r : List ℕ) → length r ≡ 4096 → outs g.p id (take m r) n (out_of f id) ≡ outs g.p id r n (out_of f id) =
      λ r l. outs_within g.p id m r (omega arith) n (out_of f id) al.low (out_within id h) in
      ap (λ (r : List ℕ). outs g.p id r n (out_of f id)) (part_unrolled y.state.start y.store full id h)
      ∙ sym (read ring (ring_length y.state.start y.store full id h))
      ∙ ap (λ (r : List ℕ). outs g.p id r n (out_of f id)) (sym (k.bytes id h))
      ∙ read (part_of store id) (part_length store id h fit.whole)

  bytes_same : frame_bytes g f (unrolled y.state.start y.store) ≡ frame_bytes g f store
  unfolding frame_bytes frame_packets
  bytes_same = rw (row_same 0 N.a (lit< tt), row_same 1 N.b (lit< tt), row_same 2 N.c (lit< tt))

  -- ---- the bytes left
  left_same : (id : ℕ) → id < 3
      → take (unsent (end id).q) (part_of (closed_all g.p f N store) id) ≡ take (unsent (end id).q) (turned (start_after g.p y.state id (at N id)) (part_of y.store id))
  left_same id h =
      let o = end id in
      let m = unsent (queue_of f id) in
      let n = unsent o.q in
      let b = few id h in
      let e = (whole_steps g.p m (at N id) (out_of f id) al.low (out_within id h)).inside in
      let part = part_of y.store id in
      let from = ring_start y.state id in
      let lp : length part ≡ 4096 = part_length y.store id h full in
      let near = k.near id h in
      let z : ahead (length part) from o.at ≡ start_after g.p y.state id (at N id) = ap (λ (l : ℕ). ahead l from o.at) lp ∙ ahead_modulo from o.at (omega arith) (omega arith) in
      left_after g (plain (beside store y)) good al id h
      ∙ sym (piece_within m o.at n (part_of store id) e (omega (arith, part_length store id h fit.whole)))
      ∙ ap (λ (l : List ℕ). take n (drop o.at l)) (k.bytes id h)
      ∙ piece_within m o.at n (turned from part) e (omega (arith, ring_length y.state.start y.store full id h))
      ∙ turned_next from o.at n part (omega arith) (omega arith)
      ∙ ap (λ (v : ℕ). take n (turned v part)) z

  framed_same : Same (record { state = kept g.p (framed g f).next; store = closed_all g.p f N store }) (record { state = (ring_framed g y.state).next; store = y.store })
  unfolding kept framed next_from ends_of ring_framed
  framed_same =
      let after = framed_good g (plain (beside store y)) good al in
      record {
        state = refl;
        near = near;
        long = after.store ∙ sym full;
        bytes = bytes;
        three = refl;
        eight = λ id h. (after.queues id h).eight;
      }
    where
      near : (id : ℕ) → id < 3 → ring_start (ring_framed g y.state).next id ≤ 4095
      near zero h = omega arith
      near (suc zero) h = omega arith
      near (suc (suc zero)) h = omega arith
      near (suc (suc (suc id))) h = absurd (omega arith)

      bytes : (id : ℕ) → id < 3 → take (unsent (queue_of (framed g f).next id)) (part_of (closed_all g.p f N store) id)
          ≡ take (unsent (queue_of (framed g f).next id)) (ring_of (ring_framed g y.state).next.start y.store id)
      bytes zero h = left_same 0 h
      bytes (suc zero) h = left_same 1 h
      bytes (suc (suc zero)) h = left_same 2 h
      bytes (suc (suc (suc id))) h = absurd (omega arith)

-- ---- any frame
-- its answer, without the starts of the state after it
abbrev without_starts : Framed → KeptFramed
without_starts r = record { number = r.number; next = kept_of r.next; packets = r.packets; spares = r.spares; filler = r.filler }

module _ (store : List ℕ) (y : RingDesk) (k : Same (beside store y) y) (g : Settings) (out : List ℕ) where
  abbrev number : ℕ
  number = kept_frame_number g (kept_of y.state) store out

  -- a refused frame, with rings and without
  abbrev refused : Framed
  refused = record { number = number; next = y.state; packets = no_three; spares = 0; filler = 0 }

  abbrev kept_refused : KeptFramed
  kept_refused = record { number = number; next = kept_of y.state; packets = no_three; spares = 0; filler = 0 }

  fits : eqb number 0 ≡ true → Fit g (front_of y.state) (length store) (length out)
  fits e = frame_fits store y k g out (eqb-true _ _ e)

  frame_either : (b : Bool) → without_starts (pick b (ring_framed g y.state) refused) ≡ pick b (kept_framed g (kept_of y.state)) kept_refused
  unfolding ring_framed kept_framed
  frame_either true = refl
  frame_either false = refl

  frame_says : without_starts (ring_frame_for g y.state y.store out) ≡ kept_frame_for g (kept_of y.state) store out
  unfolding ring_frame_for kept_frame_for
  frame_says = rw (frame_number_law store y k g out) (frame_either (eqb number 0))

  frame_out_law : ring_frame_out g y.state y.store out ≡ kept_frame_out g (kept_of y.state) store out
  unfolding ring_frame_out kept_frame_out
  frame_out_law = rw (frame_number_law store y k g out) (go (eqb number 0) refl)
    where
      go : (b : Bool) → eqb number 0 ≡ b
          → pick b (written out 0 (frame_bytes g (front_of y.state) (unrolled y.state.start y.store))) out ≡ pick b (written out 0 (frame_bytes g (front_of y.state) store)) out
      go true e = ap (written out 0) (bytes_same store y k g (length out) (fits e))
      go false e = refl

  pub frame_answer : answer_ring (frame g out) y ≡ answer_kept (frame g out) (beside store y)
  unfolding answer_ring answer_kept
  frame_answer =
      ap₂ (λ (r : KeptFramed) (o : List ℕ). record { number = r.number; packets = r.packets; spares = r.spares; filler = r.filler; out = o }) frame_says frame_out_law

  pub frame_same : Same (after_kept (frame g out) (beside store y)) (after_ring (frame g out) y)
  unfolding after_kept after_ring ring_frame_for kept_frame_for kept_framed kept_store_after
  frame_same = rw (frame_number_law store y k g out) (go (eqb number 0) refl)
    where
      go : (b : Bool) → eqb number 0 ≡ b
          → Same
          (record {
            state = (pick b (kept_framed g (kept_of y.state)) kept_refused).next;
            store = pick b (closed_all g.p (front_of y.state) (hand_of g (front_of y.state)).packets store) store;
          })
          (record { state = (pick b (ring_framed g y.state) refused).next; store = y.store })
      go true e = framed_same store y k g (length out) (fits e)
      go false e = k
