-- What E5 of 02 asks of the number of dropped bytes: statements on every step, whatever it is handed. Assumes nothing.
use Rattle.std.specs.Prelude.{ℕ, ◌≤◌, ◌≡◌, List, Bool, length}
use Rattle.packet.specs.Packet.{Packet, decode}
use Rattle.receiver.specs.declared.Link.{Link}
use Rattle.receiver.specs.declared.Receiver.{Receiver}
use Rattle.receiver.specs.Bytes.{dropped_bytes}
use Rattle.receiver.specs.Receiver.{link_of, step_number, step_for}
use Rattle.receiver.specs.Dropped.{drops_by, told_for, heard_for}

-- E5's sentence, of a packet
abbrev pub by_sentence : Receiver → Packet → ℕ
by_sentence r k = drops_by (link_of r k.id) k.index k.chunk.first k.chunk.last (length k.chunk.body)

-- the bytes dropped, by the fate of a packet's useful bytes, are those of E5's sentence; p is at most 255, and so are these
abbrev pub Sentence : Type 0
Sentence = (l : Link) (i : ℕ) (f t : Bool) (n : ℕ) → n ≤ 255 → dropped_bytes l i f t n ≡ drops_by l i f t n

-- of packet s of p data bytes, with a buffer of room bytes
pub record Dropping (p : ℕ) (r : Receiver) (s : List ℕ) (room : ℕ) : Type 0 where
  -- answer and record are those of 01's step; the buffer is, by the promise
  pub answer : (told_for p r s room).answer ≡ (step_for p r s room).answer
  pub next : (told_for p r s room).next ≡ (step_for p r s room).next
  -- 0 where it is refused, else by E5's sentence
  pub refused : (step_number p r s room ≡ 0 → ⊥) → (told_for p r s room).dropped ≡ 0
  pub counted : step_number p r s room ≡ 0 → (told_for p r s room).dropped ≡ by_sentence r (decode p s)
  -- a whole unit and a packet of 255 at the most
  pub most : (told_for p r s room).dropped ≤ 4351
  -- the outer call gives the same number
  pub outer : (heard_for p r s room).dropped ≡ (told_for p r s room).dropped
