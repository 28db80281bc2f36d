-- B7: dispersal applied twice gives the data back (01, "Dispersal"). Assumes nothing.
use Rattle.std.specs.Prelude.{ℕ, ◌≡◌, List, length, take}
use Rattle.dispersal.specs.Dispersal.{dispersed, number_for, output_for}

-- what the call leaves at the front of an output, as many bytes as the input has
abbrev pub left_in : List ℕ → List ℕ → List ℕ
left_in input out = take (length input) (output_for input out)

pub record Twice : Type 0 where
  -- of blocks
  pub blocks : (xs : List ℕ) → dispersed (dispersed xs) ≡ xs
  -- and of the calls: what one call left in an output is the input of another, neither refused
  pub calls : (input between out : List ℕ) → number_for input between ≡ 0 → number_for (left_in input between) out ≡ 0 → left_in (left_in input between) out ≡ input
