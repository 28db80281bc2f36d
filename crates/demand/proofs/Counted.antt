-- A frame that was written: what it reports is what stands in its output, by ids (C2). Assumes nothing.
use Prim.Native.Nat.{ℕ, ◌+◌, ◌<◌, min}
use mathlib.Core.Path.{◌≡◌, ap, ◌∙◌}
use mathlib.Core.List.{List, ◌++◌}
use mathlib.Core.Bool.{Bool}
use native.Mathlib.Omega.{arith}
use borrow.Author.Tests.{eq-eqb}
use lib.ListN.{length, drop}
use Rattle.laws.specs.Pick.{pick}
use Rattle.laws.specs.Written.{written}
use Rattle.hand.specs.Settings.{at, total, Allowed}
use Rattle.hand.specs.Hand.{hand_for, count_of, spare_ids}
use Rattle.hand.specs.declared.Three.{Three}
use Rattle.hand.specs.declared.Settings.{Settings}
use Rattle.hand.proofs.Allowed.{allowed, allowed_back}
use Rattle.hand.proofs.Answer.{hand_total, hand_is}
use Rattle.hand.proofs.Served.{steps_counted}
use Rattle.sender.specs.State.{waiting_of}
use Rattle.sender.specs.Frame.{hand_of, frame_number, frame_for, frame_bytes, frame_out}
use Rattle.sender.specs.Frame as sends
use Rattle.sender.proofs.Framing.{fit_of}
use Rattle.demand.specs.Bytes.{split, of_id}
use Rattle.demand.specs.Run.{frame, Desk, number_of, answer}
use Rattle.demand.proofs.Good.{Good}
use Rattle.demand.proofs.Rows.{counted, counted_filler}

-- the spares reported are the steps of handing out
spares_are : (g : Settings) (w : Three) (turn : ℕ) → Allowed g → (hand_for g w turn).spares ≡ length (spare_ids g w turn)
unfolding hand_for
spares_are g w turn al = let c = (steps_counted g w turn al).all in simp (allowed_back g al) (omega arith)

-- ---- from any desk
module _ (g : Settings) (out : List ℕ) (y : Desk) (z : number_of (frame g out) y ≡ 0) where
  pub frame_allowed : Allowed g
  unfolding number_of frame_number
  frame_allowed = allowed g (fit_of g y.state (length y.store) (length out) z).allowed_in

  -- what it reports
  pub reported : ((answer (frame g out) y).packets ≡ (hand_of g y.state).packets) × ((answer (frame g out) y).filler ≡ (hand_of g y.state).filler)
      × ((answer (frame g out) y).spares ≡ (hand_of g y.state).spares)
  unfolding answer number_of frame_for sends.framed
  reported = let e = eq-eqb (frame_number g y.state y.store out) 0 z in (simp e, simp e, simp e)

  -- the steps, by queue
  pub steps_reported : (id : ℕ) → id < 3
      → at (hand_of g y.state).packets id
      ≡ min (at g.share id) (at (waiting_of g.p y.state) id) + count_of id (spare_ids g (waiting_of g.p y.state) y.state.turn)
  unfolding hand_of
  steps_reported id h =
      ap (λ (t : Three). at t id) (hand_is g (waiting_of g.p y.state) y.state.turn frame_allowed).0
      ∙ (steps_counted g (waiting_of g.p y.state) y.state.turn frame_allowed).each id h

  pub spares_reported : (answer (frame g out) y).spares ≡ length (spare_ids g (waiting_of g.p y.state) y.state.turn)
  unfolding hand_of
  spares_reported = reported.2 ∙ spares_are g (waiting_of g.p y.state) y.state.turn frame_allowed

-- ---- from a desk of a run
module _ (g : Settings) (out : List ℕ) (y : Desk) (k : Good g.p y) (z : number_of (frame g out) y ≡ 0) where
  abbrev out' : List ℕ
  out' = (answer (frame g out) y).out

  -- the output
  out_is : out' ≡ frame_bytes g y.state y.store ++ drop (0 + length (frame_bytes g y.state y.store)) out
  unfolding answer frame_out number_of written
  out_is =
      ap (λ (b : Bool). pick b (written out 0 (frame_bytes g y.state y.store)) out) (eq-eqb (frame_number g y.state y.store out) 0 z)

  pub carried : (id : ℕ) → id < 3 → length (of_id g.p id (split (g.p + 3) g.n out')) ≡ at (hand_of g y.state).packets id
  carried id h = ap (λ (s : List ℕ). length (of_id g.p id (split (g.p + 3) g.n s))) out_is ∙ counted g y k (frame_allowed g out y z) _ id h

  pub carried_filler : length (of_id g.p 3 (split (g.p + 3) g.n out')) ≡ (hand_of g y.state).filler
  carried_filler = ap (λ (s : List ℕ). length (of_id g.p 3 (split (g.p + 3) g.n s))) out_is ∙ counted_filler g y k (frame_allowed g out y z) _

  -- packets and filler are the frame
  pub frame_sum : total (hand_of g y.state).packets + (hand_of g y.state).filler ≡ g.n
  unfolding hand_of
  frame_sum = hand_total g (waiting_of g.p y.state) y.state.turn (frame_allowed g out y z)
