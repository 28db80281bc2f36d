-- Each promise settles its call: two outcomes that meet it for the same input are equal (01, "Acceptance of the promises"). Assumes nothing.
use Prim.Native.Nat.{ℕ}
use mathlib.Core.Path.{◌≡◌}
use Rattle.laws.specs.Settle.{Settles}
use Rattle.laws.proofs.Settle.{settled}
use Rattle.refusal.specs.declared.Refusal.{Refusal}
use Rattle.std.specs.Prelude.{Result}
use Rattle.refusal.specs.Refusal.{number_of, number_in}

pub number : Settles (λ (r : Refusal) (n : ℕ). n ≡ number_of r)
number = settled number_of

-- of the answer of a call that gives no value
pub answer_number : Settles (λ (r : Result (Unit {0}) Refusal) (n : ℕ). n ≡ number_in r)
answer_number = settled number_in
