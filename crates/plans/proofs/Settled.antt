-- Each promise settles its call: two outcomes that meet it for the same input are equal (01, "Acceptance of the promises"). Assumes nothing.
use Prim.Native.Nat.{ℕ}
use mathlib.Core.Path.{◌≡◌, sym, ◌∙◌}
use Rattle.std.specs.Prelude.{Result}
use Rattle.laws.specs.Settle.{Settles}
use Rattle.laws.proofs.Settle.{settled}
use Rattle.refusal.specs.declared.Refusal.{Refusal}
use Rattle.refusal.specs.Refusal.{number_in}
use Rattle.refusal.proofs.Told.{tells_apart, settled_told, number_tells}
use Rattle.hand.specs.declared.Three.{Three}
use Rattle.hand.specs.declared.Settings.{Settings}
use Rattle.hand.specs.declared.Handed.{Handed}
use Rattle.hand.specs.Hand.{handed_in}
use Rattle.hand.proofs.Told.{handed_tells}
use Rattle.plans.specs.Plans.{alone, plans_for, in_force, plan_hand_for, changed_in, change_for}
use Rattle.plans.specs.declared.Plans.{Plans}
use Rattle.plans.proofs.Told.{changed_tells}

-- `Plans::of`
pub of : Settles (λ (i : Settings) (r : Plans). r ≡ alone i)
of = settled alone

-- `Plans::check`
pub check : Settles (λ (i : Plans) (r : Result (Unit {0}) Refusal). number_in r ≡ plans_for i)
check = settled_told number_tells plans_for

-- an input is the frame count and the record
pub in_force_law : Settles (λ (i : ℕ × Plans) (r : Plans). r ≡ in_force i.0 i.1)
in_force_law = settled (λ i. in_force i.0 i.1)

-- the record, the frame count, what waits, and the turn
pub hand_out_law : Settles (λ (i : Plans × ℕ × Three × ℕ) (r : Result Handed Refusal). handed_in r ≡ plan_hand_for i.0 i.1 i.2 i.3)
hand_out_law = settled_told handed_tells (λ i. plan_hand_for i.0 i.1 i.2 i.3)

-- the record, and the set that is entered: its frame count, N, shares, ceilings
pub change : Settles (λ (i : Plans × ℕ × ℕ × Three × Three) (r : Result Plans Refusal). changed_in i.0 r ≡ change_for i.0 i.1 i.2 i.3 i.4)
change i x y p q = tells_apart (changed_tells i.0) x y (p ∙ sym q)
