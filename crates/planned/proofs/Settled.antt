-- Each promise settles its call: two outcomes that meet it for the same input are equal (01, "Acceptance of the promises"). Assumes nothing.
use Prim.Native.Nat.{ℕ}
use mathlib.Core.Path.{◌≡◌}
use mathlib.Core.List.{List}
use Rattle.laws.specs.Settle.{Settles}
use Rattle.laws.proofs.Settle.{settled_both}
use Rattle.plans.specs.declared.Plans.{Plans}
use Rattle.sender.specs.declared.Sender.{Sender}
use Rattle.sender.specs.declared.Loaded.{Loaded}
use Rattle.planned.specs.Planned.{plan_load_for, plan_store_for, plan_frame_for, plan_frame_out}
use Rattle.planned.specs.declared.Framed.{Framed}

-- an input is the record, the state, the id, the unit and the store before the call
pub load : Settles (λ (i : Plans × Sender × ℕ × List ℕ × List ℕ) (o : Loaded × List ℕ).
    (o.0 ≡ plan_load_for i.0 i.1 i.2 i.3 i.4) × (o.1 ≡ plan_store_for i.0 i.1 i.2 i.3 i.4))
load = settled_both (λ i. plan_load_for i.0 i.1 i.2 i.3 i.4) (λ i. plan_store_for i.0 i.1 i.2 i.3 i.4)

-- the answer and the output; an input is the record, the frame count, the state, the store, and the output before the call
pub frame : Settles (λ (i : Plans × ℕ × Sender × List ℕ × List ℕ) (o : Framed × List ℕ).
    (o.0 ≡ plan_frame_for i.0 i.1 i.2 i.3 i.4) × (o.1 ≡ plan_frame_out i.0 i.1 i.2 i.3 i.4))
frame = settled_both (λ i. plan_frame_for i.0 i.1 i.2 i.3 i.4) (λ i. plan_frame_out i.0 i.1 i.2 i.3 i.4)
