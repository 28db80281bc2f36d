-- Each promise settles its call: two outcomes that meet it for the same input are equal (01, "Acceptance of the promises"). Assumes nothing.
use Prim.Native.Nat.{ℕ}
use mathlib.Core.Path.{◌≡◌}
use mathlib.Core.List.{List}
use Rattle.laws.specs.Settle.{Settles}
use Rattle.laws.proofs.Settle.{settled, settled_both}
use Rattle.sender.specs.declared.Sender.{Sender}
use Rattle.hand.specs.declared.Settings.{Settings}
use Rattle.sender.specs.declared.Loaded.{Loaded}
use Rattle.sender.specs.declared.Framed.{Framed}
use Rattle.sender.specs.Rings.{fresh_rings, ring_load_for, ring_store_for, ring_frame_for, ring_frame_out}

-- `Sender::fresh` is handed nothing
pub fresh : Settles (λ (i : Unit {0}) (r : Sender). r ≡ fresh_rings)
fresh = settled (λ i. fresh_rings)

-- an input is the settings, the state, the id, the unit and the store before the call
pub load : Settles (λ (i : Settings × Sender × ℕ × List ℕ × List ℕ) (o : Loaded × List ℕ).
    (o.0 ≡ ring_load_for i.0 i.1 i.2 i.3 i.4) × (o.1 ≡ ring_store_for i.0 i.1 i.2 i.3 i.4))
load = settled_both (λ i. ring_load_for i.0 i.1 i.2 i.3 i.4) (λ i. ring_store_for i.0 i.1 i.2 i.3 i.4)

-- the answer and the output; an input is the settings, the state, the store, and the output before the call
pub frame : Settles (λ (i : Settings × Sender × List ℕ × List ℕ) (o : Framed × List ℕ).
    (o.0 ≡ ring_frame_for i.0 i.1 i.2 i.3) × (o.1 ≡ ring_frame_out i.0 i.1 i.2 i.3))
frame = settled_both (λ i. ring_frame_for i.0 i.1 i.2 i.3) (λ i. ring_frame_out i.0 i.1 i.2 i.3)
