-- B7, of blocks and of the calls. Assumes nothing.
use Prim.Native.Nat.{ℕ, ◌+◌}
use mathlib.Core.Path.{◌≡◌, ap, ◌∙◌}
use mathlib.Core.List.{List}
use lib.ListN.{length, drop}
use lib.Seq.{take_at}
use Rattle.laws.specs.Written.{written}
use Rattle.dispersal.specs.Dispersal.{dispersed, number_for, output_for}
use Rattle.dispersal.specs.Twice.{left_in, Twice}
use Rattle.dispersal.proofs.Sequence.{length_dispersed, twice}

-- a call that is not refused leaves the block, dispersed
left_is : (input out : List ℕ) → number_for input out ≡ 0 → left_in input out ≡ dispersed input
unfolding output_for written
left_is input out e = rw e (take_at (dispersed input) (drop (0 + length (dispersed input)) out) (length input) (length_dispersed input))

pub applied_twice : Twice
applied_twice = record {
  blocks = twice;
  calls = λ input between out e f. left_is (left_in input between) out f ∙ ap dispersed (left_is input between e) ∙ twice input;
}
