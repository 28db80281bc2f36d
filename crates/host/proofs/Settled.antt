-- The promises of dispersal, of the packet check, of the settings' check and of the receiver's calls settle them; the others have the library's
-- own promises, whose theorems stand beside the library's calls.
-- Assumes nothing.
use mathlib.Core.Path.{◌≡◌}
use mathlib.Core.List.{List}
use Prim.Native.Nat.{ℕ}
use lib.ListN.{length}
use Rattle.laws.specs.Settle.{Settles}
use Rattle.laws.proofs.Settle.{settled, settled_both}
use Rattle.dispersal.specs.Dispersal.{number_for, output_for}
use Rattle.packet.specs.Calls.{check_for}
use Rattle.hand.specs.Settings.{settings_for}
use Rattle.hand.specs.declared.Settings.{Settings}
use Rattle.receiver.specs.declared.Receiver.{Receiver}
use Rattle.receiver.specs.Receiver.{buffer_for}
use Rattle.host.specs.declared.Received.{Received}
use Rattle.host.specs.Received.{received_for, unheard}

-- `keshgurvat_packet_check`: an input is p and the packet
pub packet_check : Settles (λ (i : ℕ × List ℕ) (r : ℕ). r ≡ check_for i.0 i.1)
packet_check = settled (λ i. check_for i.0 i.1)

-- `keshgurvat_settings_check` gives the refusal as its number
pub settings_check : Settles (λ (s : Settings) (r : ℕ). r ≡ settings_for s)
settings_check = settled settings_for

-- `keshgurvat_receiver_fresh` is handed nothing
pub receiver_fresh : Settles (λ (i : Unit {0}) (r : Receiver). r ≡ unheard)
receiver_fresh = settled (λ i. unheard)

-- `keshgurvat_receive`: an input is p, the record, the packet, and the buffer before the call
pub receive : Settles (λ (i : ℕ × Receiver × List ℕ × List ℕ) (o : Received × List ℕ).
    (o.0 ≡ received_for i.0 i.1 i.2 (length i.3)) × (o.1 ≡ buffer_for i.0 i.1 i.2 i.3))
receive = settled_both (λ i. received_for i.0 i.1 i.2 (length i.3)) (λ i. buffer_for i.0 i.1 i.2 i.3)

-- `keshgurvat_disperse`: an input is the input and the output before the call
pub disperse : Settles (λ (i : List ℕ × List ℕ) (o : ℕ × List ℕ). (o.0 ≡ number_for i.0 i.1) × (o.1 ≡ output_for i.0 i.1))
disperse = settled_both (λ i. number_for i.0 i.1) (λ i. output_for i.0 i.1)
