-- What each way through the hand-out gives. Assumes nothing.
use Prim.Native.Nat.{ℕ, ◌+◌, ◌-◌, ◌%◌, ◌<◌, ◌^◌}
use mathlib.Core.Path.{◌≡◌}
use native.Mathlib.Omega.{arith}
use native.Mathlib.Numerals.{add-one}
use mathlib.Core.Bool.{Bool, true, false}
use lib.Dec.{eqb}
use borrow.Author.Tests.{ltb-true}
use mir.Val.{Fits}
use mir.Syntax.{w64}
use Rattle.hand.specs.declared.Three.{Three}
use Rattle.hand.specs.declared.Plan.{Plan}
use Rattle.hand.specs.declared.Settings.{Settings}
use Rattle.laws.specs.Pick.{pick}
use Rattle.hand.specs.Settings.{at, total}
use Rattle.hand.specs.Hand.{low, free, give, given_to, turn_of, first_free, taker, give_one, spread, hand_out, plan_for}
use Rattle.hand.proofs.Steps.{spread_next}

pub at_fits : (t : Three) (i : ℕ) → Fits w64 t.a → Fits w64 t.b → Fits w64 t.c → at t i < 2 ^ 64
at_fits t i fa fb fc = go (eqb i 0) (eqb i 1)
  where
    go : (p q : Bool) → pick p t.a (pick q t.b t.c) < 2 ^ 64
    go true q = omega arith
    go false true = omega arith
    go false false = omega arith

-- a queue that is free has room for one more
pub free_room : (cap : Three) (g : Plan) (i : ℕ) → free cap g i ≡ true → Fits w64 cap.a → Fits w64 cap.b → Fits w64 cap.c → at g.packets i + 1 < 2 ^ 64
unfolding free
free_room cap g i e fa fb fc = let h : at g.packets i < at cap i = ltb-true _ _ e in omega (arith, at_fits cap i fa fb fc)

-- one spare: to the first queue that is below its cap
module _ (cap : Three) (g r : Plan) where
  pub one_i : free cap g (turn_of g) ≡ true → r ≡ give g (turn_of g) → r ≡ give_one cap g
  unfolding give_one given_to taker first_free
  one_i h e = simp (h, e)

  pub one_j : free cap g (turn_of g) ≡ false → free cap g ((turn_of g + 1) % 3) ≡ true → r ≡ give g ((turn_of g + 1) % 3) → r ≡ give_one cap g
  unfolding give_one given_to taker first_free
  one_j h h' e = simp (h, h', e)

  pub one_k : free cap g (turn_of g) ≡ false → free cap g ((turn_of g + 1) % 3) ≡ false → free cap g ((turn_of g + 2) % 3) ≡ true
      → r ≡ give g ((turn_of g + 2) % 3) → r ≡ give_one cap g
  unfolding give_one given_to taker first_free
  one_k h h' h'' e = simp (h, h', h'', e)

pub one_none : (cap : Three) (g : Plan) → free cap g (turn_of g) ≡ false → free cap g ((turn_of g + 1) % 3) ≡ false
    → free cap g ((turn_of g + 2) % 3) ≡ false → g ≡ give_one cap g
unfolding give_one given_to taker first_free
one_none cap g h h' h'' = simp (h, h', h'')

-- one turn more of the loop
pub spread_more : (k : ℕ) (cap : Three) (g r r' : Plan) → r ≡ spread k cap g → r' ≡ give_one cap r → r' ≡ spread (k + 1) cap g
spread_more k cap g r r' e e' = let n = spread_next k cap g in rw add-one (cc)

pub plan_is : (s : Settings) (waiting g cap : Three) (turn k : ℕ) (r : Plan) → g ≡ low s.share waiting → k ≡ total g → cap ≡ low waiting s.ceiling
    → r ≡ spread (s.n - k) cap (record { packets = g; turn = turn }) → r ≡ plan_for s waiting turn
unfolding plan_for hand_out
plan_is s waiting g lim turn k r eg ek ec er = cc
