-- What is said of a packet's header, with the number (01, "Numbers given back"): all zero where the packet is refused. Assumes nothing.
use Rattle.std.specs.Prelude.{ℕ, Bool}

pub record Head : Type 0 where
  pub number : ℕ
  pub first : Bool
  pub last : Bool
  pub id : ℕ
  pub padded : Bool
  pub index : ℕ
  pub length : ℕ
