-- What the private functions of this crate answer, and ask of their callers: no promise of a public call names it, and nothing here has to be
-- believed. Assumes nothing.
use Rattle.std.specs.Prelude.{ℕ, ◌≤◌, ◌<◌, ◌≡◌, List}
use Rattle.packet.specs.Packet.{Packet, packet_of}
use Rattle.packet.specs.declared.Head.{Head}

-- the packet with this header and these useful bytes
abbrev pub says_with : Head → List ℕ → Packet
says_with h body = packet_of h.first h.last h.id h.index body

-- what the checks establish: n useful bytes, a buffer of room bytes
pub record Checked (h : Head) (n room : ℕ) : Type 0 where
  pub id_in : h.id < 4
  pub index_in : h.index < 8
  pub most : n ≤ 255
  pub size : h.length ≡ n
  pub whole : room ≡ 16384
