-- Each promise settles its call: two outcomes that meet it for the same input are equal (01, "Acceptance of the promises"). An input is p and
-- the packet's bytes. Assumes nothing.
use Prim.Native.Nat.{ℕ}
use mathlib.Core.Path.{◌≡◌, refl, ap}
use mathlib.Core.Bool.{Bool}
use mathlib.Core.List.{List}
use lib.ListN.{length}
use Rattle.laws.specs.Settle.{Settles}
use Rattle.laws.proofs.Settle.{settled}
use Rattle.std.specs.Prelude.{Result}
use Rattle.refusal.specs.declared.Refusal.{Refusal}
use Rattle.refusal.specs.Refusal.{number_in}
use Rattle.refusal.proofs.Told.{Tells, settled_told, settled_told_both, number_tells}
use Rattle.moves.specs.Wrote.{wrote_in}
use Rattle.moves.proofs.Told.{wrote_tells}
use Rattle.packet.specs.Calls.{check_for, head_in, read_for, useful_for, out_for, write_for}
use Rattle.packet.specs.declared.Head.{Head}
use Rattle.packet.specs.Head as told
use Rattle.packet.specs.Packet.{packet_of}

pub check : Settles (λ (i : ℕ × List ℕ) (r : Result (Unit {0}) Refusal). number_in r ≡ check_for i.0 i.1)
check = settled_told number_tells (λ i. check_for i.0 i.1)

-- what is told of a header is all that the answer has
head_tells : Tells head_in
head_tells =
    record {
      number = λ h. h.number;
      of_ok = λ h. refl;
      of_err = λ r. refl;
      values = λ a b e. ap
          (λ (h : told.Head). record { first = h.first; last = h.last; id = h.id; padded = h.padded; index = h.index; length = h.length })
          e;
    }

pub read : Settles (λ (i : ℕ × List ℕ) (r : Result Head Refusal). head_in r ≡ read_for i.0 i.1)
read = settled_told head_tells (λ i. read_for i.0 i.1)

pub useful : Settles (λ (i : ℕ × List ℕ) (r : List ℕ). r ≡ useful_for i.0 i.1)
useful = settled (λ i. useful_for i.0 i.1)

-- an input is p, both flags, id, index, the useful bytes, and the output before the call
pub write : Settles (λ (i : ℕ × Bool × Bool × ℕ × ℕ × List ℕ × List ℕ) (o : Result ℕ Refusal × List ℕ).
    (wrote_in o.0 ≡ write_for i.0 (packet_of i.1 i.2 i.3 i.4 i.5) (length i.6))
    × (o.1 ≡ out_for i.0 (packet_of i.1 i.2 i.3 i.4 i.5) i.6))
write =
    settled_told_both wrote_tells (λ i. write_for i.0 (packet_of i.1 i.2 i.3 i.4 i.5) (length i.6))
    (λ i. out_for i.0 (packet_of i.1 i.2 i.3 i.4 i.5) i.6)
