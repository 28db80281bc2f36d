-- What the private functions of this crate ask of their callers, and what a row keeps from packet to packet: no promise of a public call names
-- it, and nothing here has to be believed. Assumes nothing.
use Rattle.std.specs.Prelude.{ℕ, ◌+◌, ◌≤◌, ◌<◌, ◌≡◌, false, length}
use Rattle.queue.specs.Queue.{unsent, broken}
use Rattle.row.specs.declared.Out.{Out}

-- a queue without faults, whose unsent bytes stand in a region of room bytes from where the writing stands on
pub record InRegion (p : ℕ) (o : Out) (room : ℕ) : Type 0 where
  pub eight : length o.q.left ≡ 8
  pub fine : broken p o.q ≡ false
  pub far : o.q.sent ≤ 4096
  pub inside : o.at + unsent o.q ≤ room
  pub index : o.index < 8
