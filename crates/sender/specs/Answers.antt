-- What the calls of document 01 give back, over 01's part of the state. Assumes nothing.
use Rattle.std.specs.Prelude.{ℕ}
use Rattle.hand.specs.declared.Three.{Three}
use Rattle.sender.specs.declared.Front.{Front}

-- the number, and the state after the call
pub record Loaded : Type 0 where
  pub number : ℕ
  pub next : Front

-- the number, the state after the call, and what the frame holds: packets of each queue, spares among them, filler
pub record Framed : Type 0 where
  pub number : ℕ
  pub next : Front
  pub packets : Three
  pub spares : ℕ
  pub filler : ℕ
