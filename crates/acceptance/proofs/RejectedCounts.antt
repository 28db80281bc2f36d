-- No function that meets the promise of the frame invents its counts (01, "Acceptance of the promises"): whatever it is handed, the reported
-- packets and the reported filler are those of the frame that it wrote. Assumes nothing.
use Prim.Native.Nat.{ℕ, zero, suc, ◌+◌, ◌<◌, ◌≤◌}
use mathlib.Core.Path.{◌≡◌, sym, ap, ◌∙◌}
use mathlib.Core.Bool.{Bool}
use mathlib.Core.List.{List, ◌++◌}
use native.Mathlib.Omega.{arith}
use borrow.Author.Tests.{eq-eqb}
use lib.Dec.{lit<}
use lib.ListN.{drop, length, length-append}
use Rattle.laws.specs.Pick.{pick}
use Rattle.laws.specs.Written.{written}
use Rattle.hand.specs.Hand.{no_three}
use Rattle.hand.specs.Settings.{at, Allowed}
use Rattle.hand.specs.declared.Settings.{Settings}
use Rattle.hand.proofs.Allowed.{allowed}
use Rattle.queue.proofs.Faults.{Sound, sound_of}
use Rattle.sender.specs.State.{queue_of, index_of}
use Rattle.sender.specs.Frame.{framed, frame_bytes}
use Rattle.sender.specs.Rings.{front_of, ring_of, unrolled, ring_frame_number, ring_framed, ring_frame_for, ring_frame_out}
use Rattle.sender.specs.Private.{Fit}
use Rattle.sender.specs.declared.Sender.{Sender}
use Rattle.sender.specs.declared.Framed.{Framed}
use Rattle.sender.proofs.Faults.{Fine, fine_of}
use Rattle.sender.proofs.Checks.{going_of}
use Rattle.sender.proofs.Going.{ring_frame_says}
use Rattle.sender.proofs.Unrolled.{ring_length}
use Rattle.demand.specs.Run.{Desk}
use Rattle.demand.proofs.Good.{Good}
use Rattle.demand.proofs.Rows.{counted, counted_filler}
use Rattle.acceptance.specs.Wrong.{Framer, Frames, Shaped, held_by, Counts, Invents}

module _ (g : Settings) (s : Sender) (store out : List ℕ) where
  -- the store as 01 has it: of those bytes the frame is made
  abbrev unrolled_store : List ℕ
  unrolled_store = unrolled s.start store

  abbrev desk : Desk
  desk = record { state = front_of s; store = unrolled_store }

  module _ (shape : Shaped s) (e : ring_frame_number g s store out ≡ 0) where
    fit : Fit g (front_of s) (length store) (length out)
    unfolding ring_frame_number
    fit = (going_of g s (length store) (length out) e).fit

    al : Allowed g
    al = allowed g fit.allowed_in

    full : length unrolled_store ≡ 12288
    unfolding unrolled
    full =
        let r = ring_of s.start store in
        let l = ring_length s.start store fit.whole in
        length-append (r 0) (r 1 ++ r 2) ∙ omega (arith, length-append (r 1) (r 2), l 0 (lit< tt), l 1 (lit< tt), l 2 (lit< tt))

    -- a state that is not refused is a good one
    good : Good g.p desk
    good =
        let f = fine_of g.p (front_of s) fit.fine in
        record { three = shape.0; queues = qs f; turn = f.turn; indexes = is f; store = full }
      where
        qs : Fine g.p (front_of s) → (id : ℕ) → id < 3 → Sound g.p (queue_of (front_of s) id)
        qs f zero h = sound_of g.p (queue_of (front_of s) 0) (shape.1 0 h) f.q0
        qs f (suc zero) h = sound_of g.p (queue_of (front_of s) 1) (shape.1 1 h) f.q1
        qs f (suc (suc zero)) h = sound_of g.p (queue_of (front_of s) 2) (shape.1 2 h) f.q2
        qs f (suc (suc (suc id))) h = absurd (omega arith)

        is : Fine g.p (front_of s) → (id : ℕ) → id < 4 → index_of (front_of s) id ≤ 7
        is f zero h = f.i0
        is f (suc zero) h = f.i1
        is f (suc (suc zero)) h = f.i2
        is f (suc (suc (suc zero))) h = f.i3
        is f (suc (suc (suc (suc id)))) h = absurd (omega arith)

    answer_is : ring_frame_for g s store out ≡ ring_framed g s
    unfolding ring_frame_for
    answer_is =
        ap (λ (b : Bool). pick b (ring_framed g s) (record { number = ring_frame_number g s store out; next = s; packets = no_three; spares = 0; filler = 0 })) (eq-eqb (ring_frame_number g s store out) 0 e)

    output_is : ring_frame_out g s store out ≡ written out 0 (frame_bytes g (front_of s) unrolled_store)
    unfolding ring_frame_out
    output_is = ap (λ (b : Bool). pick b (written out 0 (frame_bytes g (front_of s) unrolled_store)) out) (eq-eqb (ring_frame_number g s store out) 0 e)

    queues_count : (id : ℕ) → id < 3 → at (ring_frame_for g s store out).packets id ≡ held_by g id (ring_frame_out g s store out)
    unfolding ring_framed framed written
    queues_count id h =
        ap (λ (a : Framed). at a.packets id) answer_is
        ∙ sym (counted g desk good al (drop (0 + length (frame_bytes g (front_of s) unrolled_store)) out) id h)
        ∙ ap (held_by g id) (sym output_is)

    filler_counts : (ring_frame_for g s store out).filler ≡ held_by g 3 (ring_frame_out g s store out)
    unfolding ring_framed framed written
    filler_counts =
        ap (λ (a : Framed). a.filler) answer_is
        ∙ sym (counted_filler g desk good al (drop (0 + length (frame_bytes g (front_of s) unrolled_store)) out))
        ∙ ap (held_by g 3) (sym output_is)

pub counts : (f : Framer) → Frames f → Counts f
counts f meets g s store out shape z =
    let m = meets g s store out in
    let e : ring_frame_number g s store out ≡ 0 = sym (ring_frame_says g s store out) ∙ ap (λ (a : Framed). a.number) (sym m.0) ∙ z in (
      (λ id h. ap (λ (a : Framed). at a.packets id) m.0 ∙ queues_count g s store out shape e id h ∙ ap (held_by g id) (sym m.1)),
      ap (λ (a : Framed). a.filler) m.0 ∙ filler_counts g s store out shape e ∙ ap (held_by g 3) (sym m.1),
    )

pub no_invention : (f : Framer) → Frames f → Invents f → ⊥
no_invention f meets invents = invents (counts f meets)
