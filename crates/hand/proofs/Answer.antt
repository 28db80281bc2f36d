-- What `hand_out` answers. Assumes nothing.
use Prim.Native.Nat.{ℕ, ◌+◌, ◌-◌, ◌≤◌, ◌<◌, ◌^◌}
use mathlib.Core.Path.{◌≡◌, sym, ap, ◌∙◌}
use native.Mathlib.Omega.{arith}
use borrow.Author.Tests.{ne_eqb}
use Rattle.std.specs.Prelude.{Err}
use Rattle.refusal.specs.declared.Refusal.{Refusal}
use Rattle.refusal.proofs.Numbers.{number_ne0}
use Rattle.hand.specs.Settings.{total, settings_for, Allowed}
use Rattle.hand.specs.Hand.{low, no_three, plan_for, Handed, hand_for, handed_in}
use Rattle.hand.specs.declared.Three.{Three}
use Rattle.hand.specs.declared.Plan.{Plan}
use Rattle.hand.specs.declared.Settings.{Settings}
use Rattle.hand.proofs.Allowed.{allowed, allowed_back}
use Rattle.hand.proofs.Served.{frame_served}

module _ (s : Settings) (w : Three) (turn number : ℕ) (e : number ≡ settings_for s) where
  pub hand_refused : (number ≡ 0 → ⊥) → ◌≡◌ {A = Handed} (record { number = number; packets = no_three; spares = 0; filler = 0; turn = 0 }) (hand_for s w turn)
  unfolding hand_for
  hand_refused h = simp (← e, ne_eqb number 0 h)

module _ (s : Settings) (w : Three) (turn : ℕ) (e : 0 ≡ settings_for s) (met : Three) (em : met ≡ low s.share w)
    (g : Plan) (eg : g ≡ plan_for s w turn) where
  few : s.n ≤ 8190
  few = let r = (allowed s (sym e)).room in omega arith

  pub sum_in : total g.packets ≤ s.n
  sum_in = let f = (frame_served s w turn (allowed s (sym e))).whole in rw eg f

  pub met_in : total met ≤ total g.packets
  met_in =
      let f = frame_served s w turn (allowed s (sym e)) in
      rw (em, eg) (omega (arith, f.share 0, f.share 1, f.share 2))

  -- the sums that the code forms fit
  pub got_fits : total g.packets < 2 ^ 64
  got_fits = omega (arith, few, sum_in)

  pub met_fits : total met < 2 ^ 64
  met_fits = omega (arith, few, sum_in, met_in)

  pub hand_done : (got sum : ℕ) → got ≡ total g.packets → sum ≡ total met
      → ◌≡◌ {A = Handed} (record { number = 0; packets = g.packets; spares = got - sum; filler = s.n - got; turn = g.turn }) (hand_for s w turn)
  unfolding hand_for
  hand_done got sum h k = simp (← e, h, k, em, ← eg)

-- nothing is refused by settings within the limits
pub not_refused : (s : Settings) (w : Three) (turn : ℕ) (r : Refusal) → settings_for s ≡ 0 → handed_in (Err r) ≡ hand_for s w turn → ⊥
unfolding hand_for
not_refused s w turn r z e = let n : (hand_for s w turn).number ≡ 0 = simp z in number_ne0 r (ap (λ (h : Handed). h.number) e ∙ n)

-- the packets handed out and the filler are the frame
pub hand_total : (s : Settings) (w : Three) (turn : ℕ) → Allowed s → total (hand_for s w turn).packets + (hand_for s w turn).filler ≡ s.n
unfolding hand_for
hand_total s w turn k = let f = (frame_served s w turn k).whole in simp (allowed_back s k) (omega arith)

pub hand_is : (s : Settings) (w : Three) (turn : ℕ) → Allowed s → ((hand_for s w turn).packets ≡ (plan_for s w turn).packets) × ((hand_for s w turn).turn ≡ (plan_for s w turn).turn)
unfolding hand_for
hand_is s w turn k = (simp (allowed_back s k), simp (allowed_back s k))
