-- What does not matter within a value (01, "MDI packet"): the minor revision, and the reserved bits of `sdci`. Assumes nothing.
use Rattle.std.specs.Prelude.{ℕ, ◌%◌, ◌≡◌, List, length, get_or, take, drop}

-- the same but for the minor revision, which stands behind six bytes
abbrev pub ButMinor : List ℕ → List ℕ → Type 0
ButMinor v w = take 6 v ≡ take 6 w

-- the same but for the four reserved bits, the high half of the first byte
pub record ButReserved (v w : List ℕ) : Type 0 where
  pub size : length v ≡ length w
  pub levels : get_or v 0 0 % 16 ≡ get_or w 0 0 % 16
  pub rest : drop 1 v ≡ drop 1 w
