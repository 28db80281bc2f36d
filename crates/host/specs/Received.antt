-- The receiver's answer as the C host gets it, in numbers (01, "Packets, queues and receiver" and "Numbers given back"; 02, E5). Assumes nothing.
use Rattle.std.specs.Prelude.{ℕ, ◌≡◌, true, false, List, [], ◌∷◌, ◌++◌}
use Rattle.laws.specs.Pick.{pick}
use Rattle.laws.specs.Said.{Said}
use Rattle.receiver.specs.declared.Receiver.{Receiver}
use Rattle.receiver.specs.Answer.{Answer, Nothing, Delivered, Refused}
use Rattle.receiver.specs.Receiver.{fresh}
use Rattle.receiver.specs.Dropped.{told_for}
use Rattle.host.specs.declared.Received.{Received}

-- no packet has come: the library's `fresh`, by a name that the sender's leaves free
abbrev pub unheard : Receiver
unheard = fresh

-- each case in numbers, with the bytes dropped and the record after the call
unfoldable pub received_by : Answer → ℕ → Receiver → Received
received_by Nothing d r = record { number = 0; delivered = false; id = 0; length = 0; dropped = d; next = r }
received_by (Delivered id n) d r = record { number = 0; delivered = true; id = id; length = n; dropped = d; next = r }
received_by (Refused number) d r = record { number = number; delivered = false; id = 0; length = 0; dropped = d; next = r }

-- the answer to packet s of p data bytes, with a buffer of room bytes
unfoldable pub received_for : ℕ → Receiver → List ℕ → ℕ → Received
received_for p r s room = let t = told_for p r s room in received_by t.answer t.dropped t.next

-- E5 of 02: the host gets the number that the step reports
abbrev pub SameDropped : Type 0
SameDropped = (p : ℕ) (r : Receiver) (s : List ℕ) (room : ℕ) → (received_for p r s room).dropped ≡ (told_for p r s room).dropped

-- 01's number, place and values of an answer, and the bytes dropped
unfoldable pub said : Received → Said
said a = record { number = a.number; place = 0; values = pick a.delivered (a.id ∷ a.length ∷ []) [] ++ (a.dropped ∷ []) }
