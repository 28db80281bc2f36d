-- A frame out of the rings. Assumes nothing.
use Prim.Native.Nat.{ℕ, ◌-◌, ◌≤◌, ◌<◌}
use mathlib.Core.Path.{◌≡◌, refl, sym, ap, ap₂, ◌∙◌, subst}
use mathlib.Core.List.{List, [], ◌∷◌}
use mathlib.Core.Bool.{Bool, true, false}
use native.Mathlib.Omega.{arith}
use borrow.Author.Tests.{ne_eqb, eqb-true}
use lib.Dec.{eqb, lit<}
use lib.ListN.{length, get_or}
use Rattle.laws.specs.Pick.{pick}
use Rattle.laws.specs.Refuse.{refused_with}
use Rattle.laws.specs.Written.{written}
use Rattle.hand.specs.Settings.{Allowed}
use Rattle.hand.specs.Hand.{no_three, hand_for, Handed}
use Rattle.hand.specs.Served.{Served}
use Rattle.hand.specs.declared.Three.{Three}
use Rattle.hand.specs.declared.Settings.{Settings}
use Rattle.hand.proofs.Allowed.{allowed}
use Rattle.hand.proofs.Answer.{hand_is}
use Rattle.hand.proofs.Served.{frame_served}
use Rattle.queue.specs.Queue.{waiting}
use Rattle.queue.proofs.Faults.{sound_of, fine_bytes}
use Rattle.row.specs.Private.{InRegion}
use Rattle.row.proofs.Steps.{whole_of}
use Rattle.sender.specs.State.{queue_of, out_of, waiting_of}
use Rattle.sender.specs.Frame.{end_of, ends_of, next_from, framed, frame_bytes}
use Rattle.sender.specs.Kept.{counts_of, kept}
use Rattle.sender.specs.Rings.{front_of, kept_of, starting, starts_after, unrolled, ring_frame_tests, ring_frame_number, ring_framed, ring_frame_for, ring_frame_out}
use Rattle.sender.specs.Private.{Shape, Going, less, on_from}
use Rattle.sender.specs.declared.Front.{Front}
use Rattle.sender.specs.declared.Sender.{Sender}
use Rattle.sender.specs.declared.Ends.{Ends}
use Rattle.sender.specs.declared.Framed.{Framed}
use Rattle.sender.specs.Answers as answers
use Rattle.sender.proofs.Faults.{fine_of}
use Rattle.sender.proofs.Framing.{fine_queue, framed_is}
use Rattle.sender.proofs.Kept.{right_counts}
use Rattle.sender.proofs.Checks.{going_of}
use Rattle.sender.proofs.Entering.{near, eights}
use Rattle.sender.proofs.Counts.{sent_waiting, waiting_unsent}

three_eq : (w : Three) (a b c : ℕ) → w.a ≡ a → w.b ≡ b → w.c ≡ c → w ≡ record { a = a; b = b; c = c }
three_eq w a b c ea eb ec = simp (← ea, ← eb, ← ec)

module _ (g : Settings) (s : Sender) (room size : ℕ) (go : Going g s room size) (sh : Shape s) where
  abbrev f : Front
  f = front_of s

  al : Allowed g
  al = allowed g go.fit.allowed_in

  stored_is : (id : ℕ) → id < 3 → get_or s.waiting id 0 ≡ waiting g.p (queue_of f id)
  stored_is = right_counts g.p (kept_of s) go.right

  stored_fits : (id : ℕ) → id < 3 → get_or s.waiting id 0 ≤ 4096
  stored_fits id h =
      let b = fine_bytes g.p (queue_of f id) (fine_queue g.p f id h (fine_of g.p f go.fit.fine)).0 in
      omega (arith, stored_is id h, waiting_unsent g.p (queue_of f id) al.low)

  -- where the rings start
  pub starts_in : (v : Three) → v.a ≡ get_or s.start 0 0 → v.b ≡ get_or s.start 1 0 → v.c ≡ get_or s.start 2 0 → (v.a ≤ 4095) × (v.b ≤ 4095) × (v.c ≤ 4095)
  starts_in v va vb vc = (
    omega (arith, near s go.starts 0 (lit< tt)),
    omega (arith, near s go.starts 1 (lit< tt)),
    omega (arith, near s go.starts 2 (lit< tt)),
  )

  -- a count less what was sent is the count of what is left
  left_waits : (id n x : ℕ) → id < 3 → x ≡ get_or s.waiting id 0 → x - n ≡ waiting g.p (end_of g.p f id n).q
  left_waits id n x h ex =
      let k = fine_queue g.p f id h (fine_of g.p f go.fit.fine) in
      let q = sound_of g.p (queue_of f id) (eights s sh id h) k.0 in
      let i = k.1 in
      let w : InRegion g.p (out_of f id) 4096 = whole_of g.p 4096 (out_of f id) q (let b = q.bytes in omega arith) (omega arith) in
      ap (λ (m : ℕ). m - n) (ex ∙ stored_is id h) ∙ sym (sent_waiting g.p n (out_of f id) al.low w)

  module _ (p : ℕ) (ep : p ≡ g.p) (w : Three) (wa : w.a ≡ get_or s.waiting 0 0) (wb : w.b ≡ get_or s.waiting 1 0) (wc : w.c ≡ get_or s.waiting 2 0) where
    -- the stored counts are what waits
    pub waiting_is : w ≡ waiting_of p f
    unfolding waiting_of
    waiting_is = rw ep (three_eq w _ _ _ (wa ∙ stored_is 0 (lit< tt)) (wb ∙ stored_is 1 (lit< tt)) (wc ∙ stored_is 2 (lit< tt)))

    module _ (h : Handed) (eh : h ≡ hand_for g w f.turn) where
      served : Served g.n w g.share g.ceiling h.packets
      served =
          subst (Served g.n w g.share g.ceiling) (sym (ap (λ (x : Handed). x.packets) eh ∙ (hand_is g w f.turn al).0)) (frame_served g w f.turn al)

      pub less_in : (w.a ≤ 4096) × (w.b ≤ 4096) × (w.c ≤ 4096) × (h.packets.a ≤ w.a) × (h.packets.b ≤ w.b) × (h.packets.c ≤ w.c)
      less_in = (
        omega (arith, stored_fits 0 (lit< tt)),
        omega (arith, stored_fits 1 (lit< tt)),
        omega (arith, stored_fits 2 (lit< tt)),
        served.waiting 0,
        served.waiting 1,
        served.waiting 2,
      )

      -- the answer, from that of document 01
      outer : answers.Framed → Framed
      outer a = record { number = 0; next = starting (kept g.p a.next) (starts_after g.p s a.packets); packets = a.packets; spares = a.spares; filler = a.filler }

      outer_is : outer (framed g f) ≡ ring_framed g s
      unfolding outer ring_framed
      outer_is = refl

      module _ (e : Ends) (ee : e ≡ ends_of p f h.packets h.filler) (t : Front) (et : t ≡ next_from e h.turn) where
        ends : e ≡ ends_of g.p f h.packets h.filler
        ends = ee ∙ ap (λ (k : ℕ). ends_of k f h.packets h.filler) ep

        counts_are : less w h.packets ≡ counts_of g.p t
        unfolding next_from ends_of
        counts_are =
            ap₂ (λ (x : ℕ) (l : List ℕ). x ∷ l) (left_waits 0 h.packets.a w.a (lit< tt) wa)
            (ap₂ (λ (x : ℕ) (l : List ℕ). x ∷ l) (left_waits 1 h.packets.b w.b (lit< tt) wb)
            (ap (λ (x : ℕ). x ∷ []) (left_waits 2 h.packets.c w.c (lit< tt) wc)))
            ∙ ap (counts_of g.p) (sym (et ∙ ap (λ (x : Ends). next_from x h.turn) ends))

        starts_are : (v : Three) → v.a ≡ get_or s.start 0 0 → v.b ≡ get_or s.start 1 0 → v.c ≡ get_or s.start 2 0 → on_from v e ≡ starts_after g.p s h.packets
        unfolding ends_of
        starts_are v va vb vc = ap (on_from v) ends ∙ rw (va, vb, vc)

        pub ring_framed_law : (v : Three) → v.a ≡ get_or s.start 0 0 → v.b ≡ get_or s.start 1 0 → v.c ≡ get_or s.start 2 0
            → (x y : List ℕ) → x ≡ less w h.packets → y ≡ on_from v e
            → ◌≡◌ {A = Framed} (record { number = 0; next = record { q = t.q; turn = t.turn; index = t.index; waiting = x; start = y }; packets = h.packets; spares = h.spares; filler = h.filler }) (ring_framed g s)
        unfolding kept outer
        ring_framed_law v va vb vc x y ex ey =
            ap₂ (λ (l m : List ℕ). record { number = 0; next = record { q = t.q; turn = t.turn; index = t.index; waiting = l; start = m }; packets = h.packets; spares = h.spares; filler = h.filler })
            (ex ∙ counts_are) (ey ∙ starts_are v va vb vc)
            ∙ ap outer (framed_is g f room size go.fit p ep w waiting_is h eh e ee t et)
            ∙ outer_is

-- ---- the call
-- the number that it answers is that of its tests
pub ring_frame_says : (g : Settings) (s : Sender) (store out : List ℕ) → (ring_frame_for g s store out).number ≡ ring_frame_number g s store out
unfolding ring_frame_for ring_framed
ring_frame_says g s store out = go (eqb (ring_frame_number g s store out) 0) refl
  where
    go : (b : Bool) → eqb (ring_frame_number g s store out) 0 ≡ b
        → (pick b (ring_framed g s) (record { number = ring_frame_number g s store out; next = s; packets = no_three; spares = 0; filler = 0 })).number
        ≡ ring_frame_number g s store out
    go true e = sym (eqb-true _ 0 e)
    go false e = refl

module _ (g : Settings) (s : Sender) (store out : List ℕ) (k : ℕ) (e : k ≡ refused_with (ring_frame_tests g s (length store) (length out))) where
  pub frame_refused : (k ≡ 0 → ⊥)
      → (◌≡◌ {A = Framed} (record { number = k; next = s; packets = no_three; spares = 0; filler = 0 }) (ring_frame_for g s store out)) × (out ≡ ring_frame_out g s store out)
  unfolding ring_frame_for ring_frame_out ring_frame_number
  frame_refused h = (simp (← e, ne_eqb k 0 h), simp (← e, ne_eqb k 0 h))

  pub frame_going : k ≡ 0 → Going g s (length store) (length out)
  frame_going z = going_of g s (length store) (length out) (sym e ∙ z)

  pub frame_done : k ≡ 0 → (r : Framed) (o : List ℕ) → r ≡ ring_framed g s → o ≡ written out 0 (frame_bytes g (front_of s) (unrolled s.start store))
      → (r ≡ ring_frame_for g s store out) × (o ≡ ring_frame_out g s store out)
  unfolding ring_frame_for ring_frame_out ring_frame_number
  frame_done z r o er eo = (simp (← e, z) er, simp (← e, z) eo)
