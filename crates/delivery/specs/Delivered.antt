-- What a receiver delivers of packets that are given to it in order (01, "Packets, queues and receiver"). Each call is handed the record
-- and the buffer that the last one left. Assumes nothing.
use Rattle.std.specs.Prelude.{ℕ, List, [], ◌∷◌, ◌++◌, eqb, length, take}
use Rattle.laws.specs.Part.{part_of}
use Rattle.laws.specs.Pick.{pick}
use Rattle.receiver.specs.declared.Receiver.{Receiver}
use Rattle.receiver.specs.Answer.{Answer, Nothing, Delivered, Refused}
use Rattle.receiver.specs.Receiver.{fresh, step_for, buffer_for}
use Rattle.receiver.specs.Line.{Line, line_of}

pub record Ear : Type 0 where
  pub receiver : Receiver
  pub buffer : List ℕ

abbrev pub fresh_ear : List ℕ → Ear
fresh_ear buffer = record { receiver = fresh; buffer = buffer }

-- the record and the buffer after a packet s, and after several
unfoldable pub hear : ℕ → Ear → List ℕ → Ear
hear p e s = record { receiver = (step_for p e.receiver s (length e.buffer)).next; buffer = buffer_for p e.receiver s e.buffer }

unfoldable pub hear_all : ℕ → Ear → List (List ℕ) → Ear
hear_all p e [] = e
hear_all p e (s ∷ ss) = hear_all p (hear p e s) ss

-- the unit of id that an answer reports: the bytes that stand in the buffer then. Or nothing
unfoldable pub unit_in : ℕ → Answer → List ℕ → List (List ℕ)
unit_in id Nothing buffer = []
unit_in id (Delivered j n) buffer = pick (eqb id j) (take n (part_of buffer j) ∷ []) []
unit_in id (Refused number) buffer = []

unfoldable pub unit_by : ℕ → ℕ → Ear → List ℕ → List (List ℕ)
unit_by p id e s = unit_in id (step_for p e.receiver s (length e.buffer)).answer (buffer_for p e.receiver s e.buffer)

-- the units of id that these packets bring, in order
unfoldable pub delivered_of : ℕ → ℕ → Ear → List (List ℕ) → List (List ℕ)
delivered_of p id e [] = []
delivered_of p id e (s ∷ ss) = unit_by p id e s ++ delivered_of p id (hear p e s) ss

-- what the receiver knows of id, with the bytes of its open unit
abbrev pub line_at : Ear → ℕ → Line
line_at e id = line_of e.receiver e.buffer id
