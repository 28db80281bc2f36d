-- Each promise settles its call: two outcomes that meet it for the same input are equal (01, "Acceptance of the promises"). An input is the
-- settings, and for the hand-out what waits and the turn. Assumes nothing.
use Prim.Native.Nat.{ℕ}
use mathlib.Core.Path.{◌≡◌}
use Rattle.std.specs.Prelude.{Result}
use Rattle.laws.specs.Settle.{Settles}
use Rattle.refusal.specs.declared.Refusal.{Refusal}
use Rattle.refusal.specs.Refusal.{number_in}
use Rattle.refusal.proofs.Told.{settled_told, number_tells}
use Rattle.hand.specs.declared.Settings.{Settings}
use Rattle.hand.specs.Settings.{settings_for}
use Rattle.hand.specs.declared.Handed.{Handed}
use Rattle.hand.specs.declared.Three.{Three}
use Rattle.hand.specs.Hand.{hand_for, handed_in}
use Rattle.hand.proofs.Told.{handed_tells}

-- `Settings::check`
pub check : Settles (λ (s : Settings) (r : Result (Unit {0}) Refusal). number_in r ≡ settings_for s)
check = settled_told number_tells settings_for

pub hand_out_law : Settles (λ (i : Settings × Three × ℕ) (r : Result Handed Refusal). handed_in r ≡ hand_for i.0 i.1 i.2)
hand_out_law = settled_told handed_tells (λ i. hand_for i.0 i.1 i.2)
