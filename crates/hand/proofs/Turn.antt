-- The turn stays 0, 1 or 2. Assumes nothing.
use Prim.Native.Nat.{ℕ, zero, suc, ◌≤◌}
use mathlib.Core.Path.{subst, sym}
use mathlib.Core.List.{List}
use native.Mathlib.Omega.{arith}
use Rattle.hand.specs.Settings.{Allowed}
use Rattle.hand.specs.Hand.{give, give_one, spread, hand_out, plan_for, hand_for, taker}
use Rattle.hand.specs.declared.Three.{Three}
use Rattle.hand.specs.declared.Plan.{Plan}
use Rattle.hand.specs.declared.Settings.{Settings}
use Rattle.hand.proofs.Steps.{spread_none, spread_next}
use Rattle.hand.proofs.Served.{Step, gave, full, step}
use Rattle.hand.proofs.Answer.{hand_is}

step_turn : (lim : Three) (g r : Plan) (ids : List ℕ) → Step lim g r ids → g.turn ≤ 2 → r.turn ≤ 2
unfolding give
step_turn lim g r ids (gave i h3 h) k = omega arith
step_turn lim g r ids (full w) k = k

spread_turn : (lim : Three) (g : Plan) (n : ℕ) → g.turn ≤ 2 → (spread n lim g).turn ≤ 2
spread_turn lim g zero h = rw (spread_none lim g) h
spread_turn lim g (suc n) h =
    let s = spread n lim g in
    rw (spread_next n lim g) (step_turn lim s (give_one lim s) (taker lim s) (step lim s) (spread_turn lim g n h))

pub hand_turn : (s : Settings) (w : Three) (turn : ℕ) → Allowed s → turn ≤ 2 → (hand_for s w turn).turn ≤ 2
unfolding plan_for hand_out
hand_turn s w turn k h = subst (λ (t : ℕ). t ≤ 2) (sym (hand_is s w turn k).1) (spread_turn _ _ _ h)
