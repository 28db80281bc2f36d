-- What a call says in 01's terms ("Numbers given back"): the number, the place of a refusal, and the values that a success gives back. A call
-- whose answer is an enum has a definition that gives these for each case. Assumes nothing.
use Rattle.std.specs.Prelude.{ℕ, List}

pub record Said : Type 0 where
  pub number : ℕ
  pub place : ℕ
  pub values : List ℕ
