-- One id of the receiver, with the bytes of its open unit (01, "Packets, queues and receiver"). Assumes nothing.
use Rattle.std.specs.Prelude.{ℕ, List, [], ◌∷◌, ◌++◌, length, take}
use Rattle.laws.specs.Part.{part_of}
use Rattle.laws.specs.Pick.{pick}
use Rattle.packet.specs.Packet.{Chunk, Packet}
use Rattle.receiver.specs.declared.Link.{Link}
use Rattle.receiver.specs.declared.Receiver.{Receiver}
use Rattle.receiver.specs.Link.{null_of, link_after, completes, no_link}
use Rattle.receiver.specs.Receiver.{link_of}

pub record Line : Type 0 where
  pub link : Link
  pub bytes : List ℕ

-- an id of which no packet has come
abbrev pub idle : Line
idle = record { link = no_link; bytes = [] }

-- what the unit becomes with a packet
unfoldable pub grown : Line → Chunk → List ℕ
grown l c = pick c.first [] l.bytes ++ c.body

unfoldable pub line_after : Line → ℕ → Chunk → Line
line_after l i c =
    let n = link_after l.link i c.first c.last (length c.body) in
    record { link = n; bytes = pick n.begun (pick (null_of c.first c.last (length c.body)) l.bytes (grown l c)) [] }

-- the unit that a packet completes, or nothing
unfoldable pub units_by : Line → ℕ → Chunk → List (List ℕ)
units_by l i c = pick (completes l.link i c.first c.last (length c.body)) (grown l c ∷ []) []

-- what packets of the id, one after the other, leave of it, and the units that they complete, in order
unfoldable pub line_through : Line → List Packet → Line
line_through l [] = l
line_through l (k ∷ ks) = line_through (line_after l k.index k.chunk) ks

unfoldable pub units_through : Line → List Packet → List (List ℕ)
units_through l [] = []
units_through l (k ∷ ks) = units_by l k.index k.chunk ++ units_through (line_after l k.index k.chunk) ks

-- an id as record and buffer have it
unfoldable pub line_of : Receiver → List ℕ → ℕ → Line
line_of r buffer id = record { link = link_of r id; bytes = take (link_of r id).len (part_of buffer id) }
