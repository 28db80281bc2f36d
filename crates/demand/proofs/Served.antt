-- What a frame that is not refused hands a queue (C1, as the frame reports it). Assumes nothing.
use Prim.Native.Nat.{ℕ, zero, suc, ◌<◌, ◌≤◌, min}
use mathlib.Core.Path.{◌≡◌, refl, sym, ap, ◌∙◌, subst}
use native.Mathlib.Omega.{arith}
use Rattle.hand.specs.Settings.{at, Allowed}
use Rattle.hand.specs.Served.{Served}
use Rattle.hand.specs.declared.Settings.{Settings}
use Rattle.hand.proofs.Answer.{hand_is}
use Rattle.hand.proofs.Served.{frame_served}
use Rattle.queue.specs.Queue.{units, waiting, waits}
use Rattle.queue.specs.Send.{one, send}
use Rattle.row.specs.Row.{steps, stepped}
use Rattle.row.specs.Private.{InRegion}
use Rattle.row.specs.declared.Out.{Out}
use Rattle.queue.proofs.Taken.{pop_at}
use Rattle.row.proofs.Steps.{whole_steps, sound_in}
use Rattle.sender.specs.State.{queue_of, out_of, waiting_of}
use Rattle.sender.specs.Frame.{hand_of, ends_of, next_from}
use Rattle.sender.specs.Frame as sends
use Rattle.sender.specs.declared.Front.{Front}
use Rattle.demand.specs.Run.{Desk}
use Rattle.demand.proofs.Good.{Good, out_whole}

-- ---- what n packets leave
pub steps_units : (p n : ℕ) (o : Out) → 1 ≤ p → InRegion p o 4096 → units (steps p n o).q ≡ send p n (units o.q)
unfolding steps stepped send
steps_units p zero o hp w = refl
steps_units p (suc n) o hp w =
    let s = sound_in p 4096 (steps p n o) (whole_steps p 4096 n o hp w) in
    (pop_at p (steps p n o).q s.eight s.count).list ∙ ap (one p) (steps_units p n o hp w)

pub waits_at : (p : ℕ) (s : Front) (id : ℕ) → id < 3 → at (waiting_of p s) id ≡ waits p (units (queue_of s id))
unfolding waiting_of waiting waits
waits_at p s zero h = refl
waits_at p s (suc zero) h = refl
waits_at p s (suc (suc zero)) h = refl
waits_at p s (suc (suc (suc id))) h = absurd (omega arith)

-- ---- a frame that is not refused, for queue id
module _ (g : Settings) (x : Desk) (k : Good g.p x) (al : Allowed g) where
  pub queue_after : (id : ℕ) → id < 3
      → units (queue_of (sends.framed g x.state).next id) ≡ send g.p (at (hand_of g x.state).packets id) (units (queue_of x.state id))
  unfolding sends.framed next_from ends_of
  queue_after zero h = steps_units g.p (hand_of g x.state).packets.a (out_of x.state 0) al.low (out_whole g.p x k 0 h)
  queue_after (suc zero) h = steps_units g.p (hand_of g x.state).packets.b (out_of x.state 1) al.low (out_whole g.p x k 1 h)
  queue_after (suc (suc zero)) h = steps_units g.p (hand_of g x.state).packets.c (out_of x.state 2) al.low (out_whole g.p x k 2 h)
  queue_after (suc (suc (suc id))) h = absurd (omega arith)

  -- C1, as the frame reports it
  pub served_here : Served g.n (waiting_of g.p x.state) g.share g.ceiling (hand_of g x.state).packets
  unfolding hand_of
  served_here =
      let w = waiting_of g.p x.state in
      subst (Served g.n w g.share g.ceiling) (sym (hand_is g w x.state.turn al).0) (frame_served g w x.state.turn al)

  pub share_met : (id : ℕ) → id < 3 → min (at g.share id) (waits g.p (units (queue_of x.state id))) ≤ at (hand_of g x.state).packets id
  share_met id h = omega (arith, served_here.share id, waits_at g.p x.state id h)

  pub no_more : (id : ℕ) → id < 3 → at (hand_of g x.state).packets id ≤ waits g.p (units (queue_of x.state id))
  no_more id h = omega (arith, served_here.waiting id, waits_at g.p x.state id h)
