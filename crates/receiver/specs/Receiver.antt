-- The receiver's step (01, "Packets, queues and receiver" and "Numbers given back"): one packet, four ids, a buffer with 4,096 bytes for each.
-- Assumes nothing.
use Rattle.std.specs.Prelude.{ℕ, ◌+◌, ◌*◌, List, [], ◌∷◌, Bool, not, ◌||◌, ltb, eqb, length, get_or, set}
use Rattle.laws.specs.Pick.{pick}
use Rattle.laws.specs.Refuse.{Test, test, refused_with}
use Rattle.laws.specs.Said.{Said}
use Rattle.laws.specs.Written.{written}
use Rattle.packet.specs.Packet.{Packet, decode}
use Rattle.packet.specs.Calls.{wrong_word, wrong_count}
use Rattle.receiver.specs.declared.Link.{Link}
use Rattle.receiver.specs.declared.Receiver.{Receiver}
use Rattle.receiver.specs.Answer.{Answer, Nothing, Delivered, Refused}
use Rattle.receiver.specs.Link.{base_of, adds, Fate, delivered, added, dropped, skipped, fate_of, link_after, broken_link, no_link}

-- what 01 has a step give back: the answer, and the record after the call. E5 of 02 puts a number beside it (Dropped.antt)
pub record Stepped : Type 0 where
  pub answer : Answer
  pub next : Receiver

abbrev pub link_of : Receiver → ℕ → Link
link_of r id = get_or r.link id no_link

unfoldable pub fresh : Receiver
fresh = record { link = no_link ∷ no_link ∷ no_link ∷ no_link ∷ [] }

-- refusal 17: one of the four
unfoldable pub broken : Receiver → Bool
broken r = broken_link (link_of r 0) || broken_link (link_of r 1) || broken_link (link_of r 2) || broken_link (link_of r 3)

-- ---- an accepted packet, as what it says
-- what becomes of its useful bytes
abbrev pub fate_in : Receiver → Packet → Fate
fate_in r k = fate_of (link_of r k.id) k.index k.chunk.first k.chunk.last (length k.chunk.body)

-- the bytes before them in their unit
abbrev pub base_in : Receiver → Packet → ℕ
base_in r k = base_of (link_of r k.id) k.chunk.first

abbrev pub adds_in : Receiver → Packet → Bool
adds_in r k = adds (link_of r k.id) k.index k.chunk.first k.chunk.last (length k.chunk.body)

abbrev pub link_in : Receiver → Packet → Link
link_in r k = link_after (link_of r k.id) k.index k.chunk.first k.chunk.last (length k.chunk.body)

-- the answer, for a unit of this id with so many bytes
unfoldable pub answer_by : Fate → ℕ → ℕ → Answer
answer_by delivered id n = Delivered id n
answer_by added id n = Nothing
answer_by dropped id n = Nothing
answer_by skipped id n = Nothing

unfoldable pub answer_in : Receiver → Packet → Answer
answer_in r k = answer_by (fate_in r k) k.id (base_in r k + length k.chunk.body)

-- the answer with the record after it: no other id's part of it changes
unfoldable pub taken_in : Receiver → Packet → Stepped
taken_in r k = record { answer = answer_in r k; next = record { link = set r.link k.id (link_in r k) } }

-- the buffer after it: the useful bytes stand at the unit's end, in the id's 4,096 bytes
unfoldable pub buffer_in : Receiver → Packet → List ℕ → List ℕ
buffer_in r k buffer = pick (adds_in r k) (written buffer (k.id * 4096 + base_in r k) k.chunk.body) buffer

-- ---- the call: p data bytes, the packet s, a buffer of room bytes
-- the refusals, in the order tried
unfoldable pub step_tests : ℕ → Receiver → List ℕ → ℕ → List Test
step_tests p r s room =
    test (eqb p 0) 13 ∷ test (ltb 255 p) 13 ∷ test (broken r) 17 ∷ test (not (eqb room 16384)) 1 ∷ test (not (eqb (length s) (p + 3))) 1
    ∷ test (wrong_word p s) 16 ∷ test (wrong_count p s) 16 ∷ []

unfoldable pub step_number : ℕ → Receiver → List ℕ → ℕ → ℕ
step_number p r s room = refused_with (step_tests p r s room)

-- the answer and the record after the call
unfoldable pub step_for : ℕ → Receiver → List ℕ → ℕ → Stepped
step_for p r s room =
    pick (eqb (step_number p r s room) 0) (taken_in r (decode p s)) (record { answer = Refused (step_number p r s room); next = r })

-- the buffer after the call
unfoldable pub buffer_for : ℕ → Receiver → List ℕ → List ℕ → List ℕ
buffer_for p r s buffer = pick (eqb (step_number p r s (length buffer)) 0) (buffer_in r (decode p s) buffer) buffer

-- ---- 01's number and place for each case, and the values: of a unit its id and length
unfoldable pub told : Answer → Said
told Nothing = record { number = 0; place = 0; values = [] }
told (Delivered id n) = record { number = 0; place = 0; values = id ∷ n ∷ [] }
told (Refused number) = record { number = number; place = 0; values = [] }

-- the values that follow for an accepted packet
unfoldable pub values_by : Fate → ℕ → ℕ → List ℕ
values_by delivered id n = id ∷ n ∷ []
values_by added id n = []
values_by dropped id n = []
values_by skipped id n = []

unfoldable pub said_for : ℕ → Receiver → List ℕ → ℕ → Said
said_for p r s room =
    let k = decode p s in
    let number = step_number p r s room in
    record {
      number = number;
      place = 0;
      values = pick (eqb number 0) (values_by (fate_in r k) k.id (base_in r k + length k.chunk.body)) [];
    }
