-- B8: what was written as a packet is read as it was (01, "Packets, queues and receiver"). Assumes nothing.
use Rattle.std.specs.Prelude.{ℕ, ◌+◌, ◌≡◌, List, ltb, length, take}
use Rattle.packet.specs.Packet.{Packet}
use Rattle.packet.specs.Calls.{check_for, read_for, useful_for, write_for, out_for}

-- what `write` leaves at the front of an output, as many bytes as it answers
abbrev pub left_in : ℕ → Packet → List ℕ → List ℕ
left_in p k out = take (write_for p k (length out)).length (out_for p k out)

-- s is a packet of p data bytes that no call refuses, and it says k; it is padded exactly if its useful bytes are fewer than p
pub record Gives (p : ℕ) (k : Packet) (s : List ℕ) : Type 0 where
  pub size : length s ≡ p + 3
  pub right : check_for p s ≡ 0
  pub head : read_for p s
      ≡ record {
        number = 0;
        first = k.chunk.first;
        last = k.chunk.last;
        id = k.id;
        padded = ltb (length k.chunk.body) p;
        index = k.index;
        length = length k.chunk.body;
      }
  pub useful : useful_for p s ≡ k.chunk.body

-- any packet that `write` accepts, into an output of any length
abbrev pub WrittenIsRead : Type 0
WrittenIsRead = (p : ℕ) (k : Packet) (out : List ℕ) → (write_for p k (length out)).number ≡ 0 → Gives p k (left_in p k out)
