-- Hand-outs of frames, by computation: examples 11 and 12 of 01 with the ids that get a spare; and that the premise cannot be weaker. Assumes nothing.
use Prim.Native.Nat.{ℕ, zero, suc}
use native.Mathlib.Omega.{arith}
use mathlib.Core.Path.{◌≡◌, refl}
use mathlib.Core.Bool.{true}
use mathlib.Core.List.{List, [], ◌∷◌}
use Rattle.hand.specs.Hand.{free, give, given_to, first_free, taker, give_one, takers, spread, shares_met, hand_out, cap_of, spare_ids, plan_for}
use Rattle.hand.specs.Spares.{plan_at, BothBelow, steps_to, ahead}
use Rattle.hand.specs.declared.Three.{Three}
use Rattle.hand.specs.declared.Settings.{Settings}

abbrev three : ℕ → ℕ → ℕ → Three
three a b c = record { a = a; b = b; c = c }

-- a frame: the ids that get a spare, and the turn after it
abbrev Hands : Settings → Three → ℕ → List ℕ → ℕ → Type 0
Hands s waiting turn ids next = (spare_ids s waiting turn ≡ ids) × ((plan_for s waiting turn).turn ≡ next)

-- examples 11 and 12 of 01: of queues 0 and 1 two spares and one; the turn was before 0, and is behind it
abbrev ten : Settings
ten = record { p = 97; n = 10; share = three 3 3 2; ceiling = three 10 6 10 }

pub both_frames : Hands ten (three 20 20 20) 0 (0 ∷ 1 ∷ []) 2 × Hands ten (three 16 16 18) 2 (2 ∷ 0 ∷ []) 1 × (ahead 0 1 0 ≡ 1) × (ahead 0 1 1 ≡ 0)
unfolding free give given_to first_free taker give_one takers spread hand_out spare_ids plan_for steps_to ahead
both_frames = ((refl, refl), (refl, refl), refl, refl)

-- the first of them meets the premise
pub premise_met : BothBelow ten (three 20 20 20) 0 0 1
unfolding free give given_to first_free taker give_one takers spread plan_at
premise_met zero h k = (omega arith, omega arith)
premise_met (suc zero) h k = (omega arith, omega arith)
premise_met (suc (suc m)) h k = absurd (omega arith)

-- both below at the start of the frame is not enough: queue 0 gets one spare and queue 1 six
abbrev uneven : Settings
uneven = record { p = 97; n = 10; share = three 1 1 1; ceiling = three 2 10 1 }

pub not_at_start : Hands uneven (three 30 30 30) 0 (0 ∷ 1 ∷ 1 ∷ 1 ∷ 1 ∷ 1 ∷ 1 ∷ []) 2
unfolding free give given_to first_free taker give_one takers spread hand_out spare_ids plan_for
not_at_start = (refl, refl)

-- nor is both below at the spares of the two alone: two packets of queue 1 wait before each other frame; in the next it is at what waits, and
-- the spare goes to queue 2. Then the turn is 0 again: queue 0 gets one more each time, and queue 1 none
abbrev narrow : Settings
narrow = record { p = 97; n = 2; share = three 0 1 0; ceiling = three 2 2 2 }

pub not_of_two : Hands narrow (three 30 2 30) 0 (0 ∷ []) 1 × Hands narrow (three 29 1 30) 1 (2 ∷ []) 0
unfolding free give given_to first_free taker give_one takers spread hand_out spare_ids plan_for
not_of_two = ((refl, refl), (refl, refl))

-- a hand-out that begins at turn 0 each time, that looks for the lowest id, or that leaves the turn at the queue that got the spare: queue 0 gets
-- two in a row, though queue 1 could take each of them
abbrev all : Three
all = three 20 20 20

pub two_in_a_row :
    (taker (cap_of ten all) (shares_met ten.share all 0) ≡ 0 ∷ []) × (taker (cap_of ten all) (record { packets = three 4 3 2; turn = 0 }) ≡ 0 ∷ [])
    × (free (cap_of ten all) (record { packets = three 4 3 2; turn = 0 }) 1 ≡ true)
unfolding free first_free taker
two_in_a_row = (refl, refl, refl)
