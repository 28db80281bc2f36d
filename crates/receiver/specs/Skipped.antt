-- The useful bytes of a packet that a step skips (01, the receiver's paragraph: a packet that is not first while no unit is open). Assumes nothing.
use Rattle.std.specs.Prelude.{ℕ, ◌≡◌, List, Bool, ◌||◌, eqb, length}
use Rattle.laws.specs.Pick.{pick}
use Rattle.packet.specs.Packet.{Packet, decode}
use Rattle.receiver.specs.declared.Link.{Link}
use Rattle.receiver.specs.declared.Receiver.{Receiver}
use Rattle.receiver.specs.Link.{kept, null_of}
use Rattle.receiver.specs.Bytes.{skipped_bytes}
use Rattle.receiver.specs.Receiver.{link_of, step_number}

-- of an accepted packet; and of packet s of p data bytes, with a buffer of room bytes: of a refused one none
unfoldable pub skipped_in : Receiver → Packet → ℕ
skipped_in r k = skipped_bytes (link_of r k.id) k.index k.chunk.first k.chunk.last (length k.chunk.body)

unfoldable pub skipped_for : ℕ → Receiver → List ℕ → ℕ → ℕ
skipped_for p r s room = pick (eqb (step_number p r s room) 0) (skipped_in r (decode p s)) 0

-- the bytes skipped, by the fate of a packet's useful bytes, are all of them where it is neither null nor first and no unit is open after the
-- index test, and else none
abbrev pub Skipping : Type 0
Skipping = (l : Link) (i : ℕ) (f t : Bool) (n : ℕ) → skipped_bytes l i f t n ≡ pick (null_of f t n || f || kept l i) 0 n
