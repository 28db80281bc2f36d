-- B2 and B3: what is written is read back unchanged, and what was read and is written again reads as the same record and the same streams
-- (01, "MDI packet"). Assumes nothing.
use Rattle.std.specs.Prelude.{ℕ, ◌≤◌, ◌≡◌, List, length, take}
use Rattle.laws.specs.Big.{Bytes}
use Rattle.record.specs.declared.Record.{Record}
use Rattle.mdi.specs.Reading.{read_for, stream_for}
use Rattle.mdi_write.specs.Packet.{Streams, four, packet_of}
use Rattle.mdi_write.specs.Answers as writer
use Rattle.mdi_write.specs.Answers.{write_for, Fits}
use Rattle.mdi_laws.specs.NoMatter.{ReadAlike}
use Rattle.mdi_laws.specs.Typed.{Typed}

-- what `write` leaves at the front of an output, as many bytes as it answers
abbrev pub left_in : Record → Streams → List ℕ → List ℕ
left_in r ss out = take (write_for r ss (length out)).length (writer.out_for r ss out)

-- the four streams of a packet, as `stream` gives them
abbrev pub streams_for : List ℕ → Streams
streams_for p = four (stream_for p 0) (stream_for p 1) (stream_for p 2) (stream_for p 3)

-- the reader accepts the packet and gives this record and these streams
pub record Gives (p : List ℕ) (r : Record) (ss : Streams) : Type 0 where
  pub content : read_for p ≡ record { number = 0; place = 0; content = r }
  pub streams : streams_for p ≡ ss

-- B2. What we write, our reader gives back unchanged: any record and streams that `write` accepts, into an output of any length
abbrev pub WrittenIsRead : Type 0
WrittenIsRead = (r : Record) (ss : Streams) (out : List ℕ) → Typed r → (write_for r ss (length out)).number ≡ 0 → Gives (left_in r ss out) r ss

-- B3. What was read and is written again reads as the same record, and the same streams
pub record ReadIsWritten : Type 0 where
  -- a record and streams are written exactly if they fit and the output has room
  pub writes : (r : Record) (ss : Streams) (out : List ℕ) → Fits r ss → length (packet_of r ss) ≤ length out → (write_for r ss (length out)).number ≡ 0
  pub writes_only : (r : Record) (ss : Streams) (out : List ℕ) → (write_for r ss (length out)).number ≡ 0 → Fits r ss × (length (packet_of r ss) ≤ length out)
  -- what was read fits, so it is written wherever it has room
  pub fits : (p : List ℕ) → Bytes p → (read_for p).number ≡ 0 → Fits (read_for p).content (streams_for p)
  -- and what then stands in the output is read as the packet was
  pub again : (p out : List ℕ) → Bytes p → (read_for p).number ≡ 0 → length (packet_of (read_for p).content (streams_for p)) ≤ length out
      → ReadAlike (left_in (read_for p).content (streams_for p) out) p
