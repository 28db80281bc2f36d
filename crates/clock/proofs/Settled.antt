-- Each promise settles its call: two outcomes that meet it for the same input are equal (01, "Acceptance of the promises"). Assumes nothing.
use Prim.Native.Nat.{ℕ}
use mathlib.Core.Bool.{Bool}
use mathlib.Core.Path.{◌≡◌, refl, ap}
use mathlib.Core.List.{List}
use Rattle.std.specs.Prelude.{Result}
use Rattle.laws.specs.Settle.{Settles}
use Rattle.laws.specs.Refuse.{refused_with}
use Rattle.refusal.specs.declared.Refusal.{Refusal}
use Rattle.refusal.specs.Refusal.{number_in}
use Rattle.refusal.proofs.Told.{Tells, settled_told, settled_told_both, number_tells}
use Rattle.clock.specs.declared.Stamp.{Stamp}
use Rattle.clock.specs.Stamps.{field_tests, encoded_for, output_for, decoded_for}
use Rattle.moves.specs.Wrote.{wrote_in}
use Rattle.moves.proofs.Told.{wrote_tells}
use Rattle.clock.specs.Next.{next_for}
use Rattle.clock.specs.Answers.{Stamped, Judged, stamped_in, judged_in}
use Rattle.clock.specs.Follows.{follows_for}

-- what the views say settles the answers
pub stamped_tells : Tells stamped_in
stamped_tells =
    record { number = λ (v : Stamped). v.number; of_ok = λ t. refl; of_err = λ r. refl; values = λ a b e. ap (λ (v : Stamped). v.stamp) e }

pub judged_tells : Tells judged_in
judged_tells =
    record { number = λ (v : Judged). v.number; of_ok = λ y. refl; of_err = λ r. refl; values = λ a b e. ap (λ (v : Judged). v.yes) e }

-- an input is the timestamp, and for `encode` the output before the call
pub check : Settles (λ (t : Stamp) (o : Result (Unit {0}) Refusal). number_in o ≡ refused_with (field_tests t))
check = settled_told number_tells (λ t. refused_with (field_tests t))

pub encode : Settles (λ (i : Stamp × List ℕ) (o : Result ℕ Refusal × List ℕ). (wrote_in o.0 ≡ encoded_for i.0 i.1) × (o.1 ≡ output_for i.0 i.1))
encode = settled_told_both wrote_tells (λ i. encoded_for i.0 i.1) (λ i. output_for i.0 i.1)

pub decode : Settles (λ (value : List ℕ) (o : Result Stamp Refusal). stamped_in o ≡ decoded_for value)
decode = settled_told stamped_tells decoded_for

pub next : Settles (λ (t : Stamp) (o : Result Stamp Refusal). stamped_in o ≡ next_for t)
next = settled_told stamped_tells next_for

pub follows : Settles (λ (i : Stamp × Stamp) (o : Result Bool Refusal). judged_in o ≡ follows_for i.0 i.1)
follows = settled_told judged_tells (λ i. follows_for i.0 i.1)
