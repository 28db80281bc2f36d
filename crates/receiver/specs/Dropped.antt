-- The bytes that a step drops (02, E5: "The receiver step reports, with each answer, how many bytes of an open unit it dropped in that step").
-- 01's answer gets this one number more; answer, record and buffer are those of 01's step, Receiver.antt. Assumes nothing.
use Rattle.std.specs.Prelude.{ℕ, ◌+◌, List, [], ◌∷◌, ◌++◌, Bool, not, ◌&&◌, leb, eqb, length}
use Rattle.laws.specs.Pick.{pick}
use Rattle.laws.specs.Said.{Said}
use Rattle.packet.specs.Packet.{Packet, decode}
use Rattle.receiver.specs.declared.Link.{Link}
use Rattle.receiver.specs.declared.Receiver.{Receiver}
use Rattle.receiver.specs.Answer.{Answer, Told, Heard}
use Rattle.receiver.specs.Link.{null_of}
use Rattle.receiver.specs.Bytes.{dropped_bytes}
use Rattle.receiver.specs.Receiver.{Stepped, link_of, taken_in, step_number, step_for, told, said_for}

-- E5's sentence for one id, its cases one below the other in the order of 01's paragraph: a packet has continuity index i, first flag f, last
-- flag t and n useful bytes. That `dropped_bytes`, by the fate of the bytes, is the same is `Sentence` of Dropping.antt
unfoldable pub drops_by : Link → ℕ → Bool → Bool → ℕ → ℕ
drops_by l i f t n =
    -- no unit is open
    pick (not l.begun) 0
    -- by index break: its bytes. First contact takes any index
    (pick (l.heard && not (eqb i l.index)) l.len
    -- null: nothing more is done
    (pick (null_of f t n) 0
    -- by a new first packet: its bytes
    (pick f l.len
    -- by overlength: its bytes, and those of the packet that didn't fit
    (pick (not (leb (l.len + n) 4096)) (l.len + n) 0))))

-- what an accepted packet drops, and what packet s of p data bytes does, with a buffer of room bytes: a refused one drops nothing
unfoldable pub dropped_in : Receiver → Packet → ℕ
dropped_in r k = dropped_bytes (link_of r k.id) k.index k.chunk.first k.chunk.last (length k.chunk.body)

unfoldable pub dropped_for : ℕ → Receiver → List ℕ → ℕ → ℕ
dropped_for p r s room = pick (eqb (step_number p r s room) 0) (dropped_in r (decode p s)) 0

-- ---- 01's answer with this number beside it
abbrev pub beside : Stepped → ℕ → Told
beside t n = record { answer = t.answer; dropped = n; next = t.next }

unfoldable pub told_in : Receiver → Packet → Told
told_in r k = beside (taken_in r k) (dropped_in r k)

unfoldable pub told_for : ℕ → Receiver → List ℕ → ℕ → Told
told_for p r s room = beside (step_for p r s room) (dropped_for p r s room)

-- where the record after the call stands behind a loan
unfoldable pub heard_for : ℕ → Receiver → List ℕ → ℕ → Heard
heard_for p r s room = record { answer = (step_for p r s room).answer; dropped = dropped_for p r s room }

-- ---- 01's number, place and values, and the bytes dropped as one value more
abbrev pub and_dropped : Said → ℕ → Said
and_dropped a n = record { number = a.number; place = a.place; values = a.values ++ (n ∷ []) }

unfoldable pub reported : Answer → ℕ → Said
reported a n = and_dropped (told a) n

unfoldable pub report_for : ℕ → Receiver → List ℕ → ℕ → Said
report_for p r s room = and_dropped (said_for p r s room) (dropped_for p r s room)
