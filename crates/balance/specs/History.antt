-- What a history of packets at the receiver adds up to (02, E11): each step is handed the record that the last one left; p and the buffer's
-- length may change from step to step. A refused packet counts nowhere. Assumes nothing.
use Rattle.std.specs.Prelude.{ℕ, ◌+◌, List, [], ◌∷◌, ◌++◌, Bool, true, not, ◌&&◌, ◌||◌, eqb, length}
use Rattle.laws.specs.Pick.{pick}
use Rattle.laws.specs.Sum.{sum}
use Rattle.packet.specs.Packet.{Chunk, Packet, decode}
use Rattle.receiver.specs.declared.Receiver.{Receiver}
use Rattle.receiver.specs.Answer.{Told, Answer, Nothing, Delivered, Refused}
use Rattle.receiver.specs.Link.{kept, null_of, Fate, delivered, added, dropped, skipped, fate_of}
use Rattle.receiver.specs.Receiver.{link_of, step_number}
use Rattle.receiver.specs.Bytes.{open_of}
use Rattle.receiver.specs.Dropped.{told_for}
use Rattle.receiver.specs.Skipped.{skipped_for}
use Rattle.receiver.specs.Line.{Line, idle, grown, line_after, line_through, units_through}
use Rattle.receiver.specs.Run.{Input}

-- ---- one step
-- what its packet says, whether it is accepted, and what the step gives back
abbrev pub says_at : Input → Packet
says_at g = decode g.p g.packet

abbrev pub accepted_at : Receiver → Input → Bool
accepted_at r g = eqb (step_number g.p r g.packet g.room) 0

abbrev pub told_at : Receiver → Input → Told
told_at r g = told_for g.p r g.packet g.room

-- the packet, where it is not refused and is one of id
unfoldable pub taken_at : ℕ → Receiver → Input → List Packet
taken_at id r g = pick (accepted_at r g && eqb id (says_at g).id) (says_at g ∷ []) []

-- its bytes, where its id is one of ids: useful, of a packet that is not refused; delivered, the length in the answer; dropped, the number that
-- E5 reports; skipped
unfoldable pub useful_at : (ℕ → Bool) → Receiver → Input → ℕ
useful_at ids r g = pick (accepted_at r g && ids (says_at g).id) (length (says_at g).chunk.body) 0

unfoldable pub length_by : (ℕ → Bool) → Answer → List ℕ
length_by ids Nothing = []
length_by ids (Delivered id n) = pick (ids id) (n ∷ []) []
length_by ids (Refused number) = []

unfoldable pub delivered_at : (ℕ → Bool) → Receiver → Input → ℕ
delivered_at ids r g = sum (length_by ids (told_at r g).answer)

unfoldable pub dropped_at : (ℕ → Bool) → Receiver → Input → ℕ
dropped_at ids r g = pick (ids (says_at g).id) (told_at r g).dropped 0

unfoldable pub skipped_at : (ℕ → Bool) → Receiver → Input → ℕ
skipped_at ids r g = pick (ids (says_at g).id) (skipped_for g.p r g.packet g.room) 0

-- ---- a history
-- a number of each step, added up; and the items of each step, in order
unfoldable pub sum_of : (Receiver → Input → ℕ) → List Input → Receiver → ℕ
sum_of f [] r = 0
sum_of f (g ∷ gs) r = f r g + sum_of f gs (told_at r g).next

unfoldable pub gather_of : {A : Type 0} → (Receiver → Input → List A) → List Input → Receiver → List A
gather_of f [] r = []
gather_of f (g ∷ gs) r = f r g ++ gather_of f gs (told_at r g).next

-- the packets of id that are not refused, and the lengths of the units of id in the answers
abbrev pub taken_of : ℕ → List Input → Receiver → List Packet
taken_of id = gather_of (taken_at id)

abbrev pub unit_lengths : ℕ → List Input → Receiver → List ℕ
unit_lengths id = gather_of (λ r g. length_by (eqb id) (told_at r g).answer)

-- ---- the packets of one id, gathered
-- the bytes that a packet drops, as E5 counts them: the open unit, by an index break or a first flag; a unit that passes 4,096 bytes, the packet's
-- own included
unfoldable pub over_by : Fate → List ℕ → List ℕ
over_by delivered bytes = []
over_by added bytes = []
over_by dropped bytes = bytes
over_by skipped bytes = []

unfoldable pub lost_by : Line → ℕ → Chunk → List ℕ
lost_by l i c =
    let n = length c.body in
    pick (kept l.link i && pick (null_of c.first c.last n) true (not c.first)) [] l.bytes
    ++ over_by (fate_of l.link i c.first c.last n) (grown l c)

-- the useful bytes of a packet that is skipped: it is neither null nor first, and no unit is open after the index test
unfoldable pub missed_by : Line → ℕ → Chunk → List ℕ
missed_by l i c = pick (null_of c.first c.last (length c.body) || c.first || kept l.link i) [] c.body

-- the bytes that f gives of each packet, one behind the other
unfoldable pub bytes_through : (Line → ℕ → Chunk → List ℕ) → Line → List Packet → List ℕ
bytes_through f l [] = []
bytes_through f l (k ∷ ks) = f l k.index k.chunk ++ bytes_through f (line_after l k.index k.chunk) ks

-- the units that packets of an id complete, the bytes that they drop, those of the unit that is open behind them, and those skipped
abbrev pub units_in : List Packet → List (List ℕ)
units_in ks = units_through idle ks

abbrev pub lost_in : List Packet → List ℕ
lost_in ks = bytes_through lost_by idle ks

abbrev pub open_in : List Packet → List ℕ
open_in ks = (line_through idle ks).bytes

abbrev pub missed_in : List Packet → List ℕ
missed_in ks = bytes_through missed_by idle ks

-- ---- open bytes of the ids that count: gathered from the packets of a history, and as a record has them
unfoldable pub of_four : (ℕ → Bool) → (ℕ → ℕ) → ℕ
of_four ids f = pick (ids 0) (f 0) 0 + pick (ids 1) (f 1) 0 + pick (ids 2) (f 2) 0 + pick (ids 3) (f 3) 0

unfoldable pub open_over : (ℕ → Bool) → List Input → Receiver → ℕ
open_over ids gs r = of_four ids (λ id. length (open_in (taken_of id gs r)))

unfoldable pub open_held : (ℕ → Bool) → Receiver → ℕ
open_held ids r = of_four ids (λ id. open_of (link_of r id))
