-- Each promise settles its call: two outcomes that meet it for the same input are equal (01, "Acceptance of the promises"). Assumes nothing.
use Prim.Native.Nat.{ℕ, ◌+◌}
use mathlib.Core.Path.{◌≡◌, refl, ap}
use mathlib.Core.List.{List, []}
use mathlib.Core.Bool.{Bool}
use Rattle.laws.specs.Settle.{Settles}
use Rattle.laws.specs.Refuse.{refused_with}
use Rattle.laws.proofs.Settle.{settled}
use Rattle.std.specs.Prelude.{Result}
use Rattle.refusal.specs.declared.Refusal.{Refusal}
use Rattle.refusal.specs.Refusal.{number_in}
use Rattle.refusal.proofs.Told.{Tells, settled_told, settled_told_both, number_tells}
use Rattle.moves.specs.Wrote.{wrote_in}
use Rattle.moves.proofs.Told.{wrote_tells}
use Rattle.description.specs.Answers.{Described, described_in, read_for, Entity, entity_in, read_entity_for, output_for, write_for, entity_output_for, write_entity_for, value_length, handed}
use Rattle.description.specs.declared.Versioned.{Versioned}
use Rattle.description.specs.declared.Lengths.{Lengths}
use Rattle.description.specs.declared.Description.{Description}
use Rattle.description.specs.Bytes.{described_by}
use Rattle.description.specs.WellFormed.{is_too_large, ill_formed}

described_tells : Tells described_in
described_tells =
    record { number = λ r. r.number; of_ok = λ d. refl; of_err = λ r. refl; values = λ a b e. ap (λ (r : Described). r.description) e }

entity_tells : Tells entity_in
entity_tells =
    record {
      number = λ r. r.number;
      of_ok = λ d. refl;
      of_err = λ r. refl;
      values = λ a b e. ap (λ (r : Entity). record { version = r.version; description = r.description }) e;
    }

-- an input is the bytes and the MSC mode
pub read : Settles (λ (i : List ℕ × ℕ) (r : Result Description Refusal). described_in r ≡ read_for i.0 i.1)
read = settled_told described_tells (λ i. read_for i.0 i.1)

pub read_entity : Settles (λ (i : List ℕ × ℕ) (r : Result Versioned Refusal). entity_in r ≡ read_entity_for i.0 i.1)
read_entity = settled_told entity_tells (λ i. read_entity_for i.0 i.1)

-- an input is the description, the MSC mode and the output before the call, and first the version
pub write : Settles (λ (i : Description × ℕ × List ℕ) (o : Result ℕ Refusal × List ℕ).
    (wrote_in o.0 ≡ write_for i.0 i.1 i.2) × (o.1 ≡ output_for i.0 i.1 i.2))
write = settled_told_both wrote_tells (λ i. write_for i.0 i.1 i.2) (λ i. output_for i.0 i.1 i.2)

pub write_entity : Settles (λ (i : ℕ × Description × ℕ × List ℕ) (o : Result ℕ Refusal × List ℕ).
    (wrote_in o.0 ≡ write_entity_for i.0 i.1 i.2 i.3) × (o.1 ≡ entity_output_for i.0 i.1 i.2 i.3))
write_entity = settled_told_both wrote_tells (λ i. write_entity_for i.0 i.1 i.2 i.3) (λ i. entity_output_for i.0 i.1 i.2 i.3)

-- ---- the steps that other crates build on
pub of_value : Settles (λ (v : List ℕ) (r : Description). r ≡ described_by v)
of_value = settled described_by

pub too_large : Settles (λ (d : Description) (r : Bool). r ≡ is_too_large d)
too_large = settled is_too_large

pub ill_formed_law : Settles (λ (i : Description × ℕ) (r : Bool). r ≡ ill_formed i.1 i.0)
ill_formed_law = settled (λ i. ill_formed i.1 i.0)

pub is_value_length : Settles (λ (n : ℕ) (r : Bool). r ≡ value_length n)
is_value_length = settled value_length

pub handed_number : Settles (λ (i : Bool × Description × ℕ) (r : Result (Unit {0}) Refusal). number_in r ≡ refused_with (handed i.0 i.1 i.2 []))
handed_number = settled_told number_tells (λ i. refused_with (handed i.0 i.1 i.2 []))

pub size : Settles (λ (l : Lengths) (r : ℕ). r ≡ l.a + l.b)
size = settled (λ l. l.a + l.b)
