-- The promises of the exports for MDI packets, of dispersal and of the packet check settle them; the others have the library's own promises,
-- whose theorems stand beside the library's calls. Assumes nothing.
use Prim.Native.Nat.{ℕ}
use mathlib.Core.List.{List}
use mathlib.Core.Path.{◌≡◌}
use lib.ListN.{length}
use Rattle.laws.specs.Settle.{Settles}
use Rattle.laws.proofs.Settle.{settled, settled_both}
use Rattle.dispersal.specs.Dispersal.{number_for, output_for}
use Rattle.mdi_write.specs.Answers.{out_for}
use Rattle.mdi_write.specs.Packet.{four}
use Rattle.packet.specs.Calls.{check_for}
use Rattle.meter.specs.declared.Seen.{Seen}
use Rattle.meter.specs.Seen.{seen_in, record_for, wrote_for}

-- an input is p and the packet
pub check : Settles (λ (i : ℕ × List ℕ) (r : ℕ). r ≡ check_for i.0 i.1)
check = settled (λ i. check_for i.0 i.1)

-- an input is the packet and the place of the data byte that is told
pub mdi_read : Settles (λ (i : List ℕ × ℕ) (r : Seen). r ≡ seen_in i.0 i.1)
mdi_read = settled (λ i. seen_in i.0 i.1)

-- an input is a count, the values of three items, the mode, the value of a timestamp, the four streams, and the output before the call
pub mdi_write : Settles (λ (i : ℕ × List ℕ × List ℕ × List ℕ × ℕ × List ℕ × List ℕ × List ℕ × List ℕ × List ℕ × List ℕ) (o : ℕ × List ℕ).
    (o.0 ≡ wrote_for (record_for i.0 i.1 i.2 i.3 i.4 i.5) (four i.6 i.7 i.8 i.9) (length i.10))
    × (o.1 ≡ out_for (record_for i.0 i.1 i.2 i.3 i.4 i.5) (four i.6 i.7 i.8 i.9) i.10))
mdi_write =
    settled_both (λ i. wrote_for (record_for i.0 i.1 i.2 i.3 i.4 i.5) (four i.6 i.7 i.8 i.9) (length i.10))
    (λ i. out_for (record_for i.0 i.1 i.2 i.3 i.4 i.5) (four i.6 i.7 i.8 i.9) i.10)

-- an input is the input and the output before the call
pub disperse : Settles (λ (i : List ℕ × List ℕ) (o : ℕ × List ℕ). (o.0 ≡ number_for i.0 i.1) × (o.1 ≡ output_for i.0 i.1))
disperse = settled_both (λ i. number_for i.0 i.1) (λ i. output_for i.0 i.1)
