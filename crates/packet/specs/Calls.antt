-- What the calls of this crate answer (01, "Packets, queues and receiver" and "Numbers given back"). Assumes nothing.
use Rattle.std.specs.Prelude.{ℕ, ◌+◌, ◌-◌, List, [], ◌∷◌, Bool, false, not, ltb, eqb, length, get_or, take, Result, Ok, Err}
use Rattle.laws.specs.Pick.{pick}
use Rattle.laws.specs.Big.{number_at}
use Rattle.laws.specs.Refuse.{Test, test, refused_with}
use Rattle.laws.specs.Written.{written}
use Rattle.refusal.specs.declared.Refusal.{Refusal}
use Rattle.refusal.specs.Refusal.{number_of}
use Rattle.crc.specs.Crc.{crc_of}
use Rattle.packet.specs.Packet.{Packet, padded, decode, encode}
use Rattle.packet.specs.declared.Head as said
use Rattle.packet.specs.Head.{Head}
use Rattle.moves.specs.Wrote.{Wrote, wrote_of}

-- ---- check, read, useful
-- the two bytes behind the data are another number than the CRC-16 of all before them
unfoldable pub wrong_word : ℕ → List ℕ → Bool
wrong_word p s = not (eqb (number_at 2 s (p + 1)) (crc_of 16 0x1021 (take (p + 1) s)))

-- padded, and the count of useful bytes is over p - 1
unfoldable pub wrong_count : ℕ → List ℕ → Bool
wrong_count p s = pick (padded (get_or s 0 0)) (ltb (p - 1) (get_or s 1 0)) false

-- the refusals, in the order tried
unfoldable pub tests_for : ℕ → List ℕ → List Test
tests_for p s =
    test (eqb p 0) 13 ∷ test (ltb 255 p) 13 ∷ test (not (eqb (length s) (p + 3))) 1 ∷ test (wrong_word p s) 16 ∷ test (wrong_count p s) 16 ∷ []

unfoldable pub check_for : ℕ → List ℕ → ℕ
check_for p s = refused_with (tests_for p s)

abbrev pub no_head : ℕ → Head
no_head number = record { number = number; first = false; last = false; id = 0; padded = false; index = 0; length = 0 }

-- what `read` answers, with the number
abbrev pub head_in : Result said.Head Refusal → Head
head_in (Ok h) =
    record { number = 0; first = h.first; last = h.last; id = h.id; padded = h.padded; index = h.index; length = h.length }
head_in (Err r) = no_head (number_of r)

-- what the packet says, in the answer's form
unfoldable pub head_for : ℕ → List ℕ → Head
head_for p s =
    let k = decode p s in
    record {
      number = 0;
      first = k.chunk.first;
      last = k.chunk.last;
      id = k.id;
      padded = padded (get_or s 0 0);
      index = k.index;
      length = length k.chunk.body;
    }

unfoldable pub read_for : ℕ → List ℕ → Head
read_for p s = pick (eqb (check_for p s) 0) (head_for p s) (no_head (check_for p s))

unfoldable pub useful_for : ℕ → List ℕ → List ℕ
useful_for p s = pick (eqb (check_for p s) 0) (decode p s).chunk.body []

-- ---- write: n useful bytes, to an output of room bytes
unfoldable pub write_tests : ℕ → ℕ → ℕ → ℕ → ℕ → List Test
write_tests p id index n room =
    test (eqb p 0) 13 ∷ test (ltb 255 p) 13 ∷ test (ltb p n) 1 ∷ test (ltb 3 id) 6 ∷ test (ltb 7 index) 6 ∷ test (ltb room (p + 3)) 1 ∷ []

unfoldable pub write_number_for : ℕ → Packet → ℕ → ℕ
write_number_for p k room = refused_with (write_tests p k.id k.index (length k.chunk.body) room)

unfoldable pub write_for : ℕ → Packet → ℕ → Wrote
write_for p k room = wrote_of (write_number_for p k room) (p + 3)

-- the output after it: the packet at its front
unfoldable pub out_for : ℕ → Packet → List ℕ → List ℕ
out_for p k out = pick (eqb (write_number_for p k (length out)) 0) (written out 0 (encode p k)) out
