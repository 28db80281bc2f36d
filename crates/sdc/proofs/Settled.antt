-- Each promise settles its call: two outcomes that meet it for the same input are equal (01, "Acceptance of the promises"). Assumes nothing.
use Prim.Native.Nat.{ℕ}
use mathlib.Core.Path.{◌≡◌}
use mathlib.Core.List.{List}
use mathlib.Core.Bool.{Bool}
use lib.ListN.{length}
use Rattle.laws.specs.Settle.{Settles}
use Rattle.laws.proofs.Settle.{settled}
use Rattle.sdc.specs.Block.{no_sdc, sdc_of, sealed, over_long, is_too_large, sdc_bytes}
use Rattle.sdc.specs.declared.Sdc.{Sdc}
use Rattle.moves.specs.Moves.{placed}

pub absent : Settles (λ (i : Unit {0}) (r : Sdc). r ≡ no_sdc)
absent = settled (λ i. no_sdc)

pub of_value : Settles (λ (v : List ℕ) (r : Sdc). r ≡ sdc_of v)
of_value = settled sdc_of

pub is_sealed : Settles (λ (v : List ℕ) (r : Bool). r ≡ sealed v)
is_sealed = settled sealed

pub over_long_law : Settles (λ (s : Sdc) (r : Bool). r ≡ over_long s)
over_long_law = settled over_long

pub too_large : Settles (λ (s : Sdc) (r : Bool). r ≡ is_too_large s)
too_large = settled is_too_large

pub value_length_law : Settles (λ (s : Sdc) (r : ℕ). r ≡ length (sdc_bytes s))
value_length_law = settled (λ s. length (sdc_bytes s))

pub put : Settles (λ (i : Sdc × List ℕ × ℕ) (o : List ℕ). o ≡ placed i.1 i.2 (sdc_bytes i.0))
put = settled (λ i. placed i.1 i.2 (sdc_bytes i.0))
