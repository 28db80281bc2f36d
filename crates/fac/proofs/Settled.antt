-- Each promise settles its call: two outcomes that meet it for the same input are equal (01, "Acceptance of the promises"). Assumes nothing.
use Prim.Native.Nat.{ℕ}
use mathlib.Core.Path.{◌≡◌, refl, ap}
use mathlib.Core.List.{List}
use mathlib.Core.Bool.{Bool}
use lib.ListN.{length}
use Rattle.std.specs.Prelude.{Result}
use Rattle.laws.specs.Settle.{Settles}
use Rattle.laws.proofs.Settle.{settled}
use Rattle.fac.specs.Answers.{Announced, announced_in, read_for, out_for, write_for}
use Rattle.fac.specs.declared.Fac.{Fac}
use Rattle.moves.specs.Wrote.{wrote_in}
use Rattle.moves.proofs.Told.{wrote_tells}
use Rattle.refusal.specs.declared.Refusal.{Refusal}
use Rattle.refusal.proofs.Told.{Tells, settled_told, settled_told_both}
use Rattle.fac.specs.Channel.{fac_of, sealed, is_too_large, not_served}

announced_tells : Tells {A = Fac} {V = Announced} announced_in
announced_tells =
    record { number = λ w. w.number; of_ok = λ f. refl; of_err = λ r. refl; values = λ a b e. ap (λ (w : Announced). w.fac) e }

pub read : Settles (λ (v : List ℕ) (r : Result Fac Refusal). announced_in r ≡ read_for v)
read = settled_told announced_tells read_for

pub write : Settles (λ (i : Fac × List ℕ) (o : Result ℕ Refusal × List ℕ). (wrote_in o.0 ≡ write_for i.0 (length i.1)) × (o.1 ≡ out_for i.0 i.1))
write = settled_told_both wrote_tells (λ i. write_for i.0 (length i.1)) (λ i. out_for i.0 i.1)

-- ---- the steps of the MDI reader and writer
pub of_value : Settles (λ (v : List ℕ) (r : Fac). r ≡ fac_of v)
of_value = settled fac_of

pub is_sealed : Settles (λ (v : List ℕ) (r : Bool). r ≡ sealed v)
is_sealed = settled sealed

pub too_large : Settles (λ (f : Fac) (r : Bool). r ≡ is_too_large f)
too_large = settled is_too_large

pub not_served_law : Settles (λ (f : Fac) (r : Bool). r ≡ not_served f)
not_served_law = settled not_served
