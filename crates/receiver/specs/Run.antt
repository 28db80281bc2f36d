-- A sequence of steps (01, "Packets, queues and receiver"): each is handed the record that the last one left. Assumes nothing.
use Rattle.std.specs.Prelude.{ℕ, List, [], ◌∷◌}
use Rattle.receiver.specs.declared.Receiver.{Receiver}
use Rattle.receiver.specs.Receiver.{step_for}

-- what a step is newly handed: p, a packet, and a buffer of room bytes
pub record Input : Type 0 where
  pub p : ℕ
  pub packet : List ℕ
  pub room : ℕ

-- the record after these steps
unfoldable pub after_all : List Input → Receiver → Receiver
after_all [] r = r
after_all (g ∷ gs) r = after_all gs (step_for g.p r g.packet g.room).next
