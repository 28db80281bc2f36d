-- Each promise settles its call: two outcomes that meet it for the same input are equal (01, "Acceptance of the promises"). An input is the
-- record, the four streams and the output before the call. Assumes nothing.
use Prim.Native.Nat.{ℕ}
use mathlib.Core.Path.{◌≡◌}
use mathlib.Core.List.{List}
use lib.ListN.{length}
use Rattle.laws.specs.Settle.{Settles}
use Rattle.mdi_write.specs.Answers.{out_for, write_for}
use Rattle.record.specs.declared.Record.{Record}
use Rattle.moves.specs.Wrote.{wrote_in}
use Rattle.moves.proofs.Told.{wrote_tells}
use Rattle.refusal.specs.declared.Refusal.{Refusal}
use Rattle.refusal.proofs.Told.{settled_told_both}
use Rattle.std.specs.Prelude.{Result}
use Rattle.mdi_write.specs.Packet.{four}

pub write : Settles (λ (i : Record × List ℕ × List ℕ × List ℕ × List ℕ × List ℕ) (o : Result ℕ Refusal × List ℕ).
    (wrote_in o.0 ≡ write_for i.0 (four i.1 i.2 i.3 i.4) (length i.5))
    × (o.1 ≡ out_for i.0 (four i.1 i.2 i.3 i.4) i.5))
write =
    settled_told_both wrote_tells (λ i. write_for i.0 (four i.1 i.2 i.3 i.4) (length i.5))
    (λ i. out_for i.0 (four i.1 i.2 i.3 i.4) i.5)
