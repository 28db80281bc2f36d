-- The writer takes the UTCO it is given for each frame (02, E3): packets that were written and read back follow each other as their
-- records do, across a leap second too. Assumes nothing.
use Rattle.std.specs.Prelude.{ℕ, Some, ◌+◌, ◌%◌, ◌^◌, ◌<◌, true, ◌≡◌, List, length}
use Rattle.clock.specs.declared.Stamp.{Stamp}
use Rattle.clock.specs.Next.{elapsed}
use Rattle.clock.specs.Following.{OneApart, with_utco}
use Rattle.record.specs.declared.Record.{Record}
use Rattle.record.specs.Succession.{follows_for}
use Rattle.mdi.specs.Reading.{read_for}
use Rattle.mdi_write.specs.Packet.{Streams}
use Rattle.mdi_write.specs.Answers.{write_for}
use Rattle.mdi_laws.specs.RoundTrips.{left_in}
use Rattle.mdi_laws.specs.Typed.{Typed}

-- a record and streams that `write` accepts for an output
pub record Writing : Type 0 where
  pub content : Record
  pub streams : Streams
  pub out : List ℕ
  pub typed : Typed content
  pub accepted : (write_for content streams (length out)).number ≡ 0

-- what the reader gives of the packet that it then leaves there
abbrev pub read_back : Writing → Record
read_back w = (read_for (left_in w.content w.streams w.out)).content

-- the record with another UTCO
abbrev pub other_utco : Record → Stamp → ℕ → Record
other_utco r a u =
    record {
      count = r.count;
      fac = r.fac;
      sdc = r.sdc;
      description = r.description;
      robustness = r.robustness;
      time = Some (with_utco a u);
    }

pub record InTurn : Type 0 where
  -- the UTCO is compared with nothing: where one is accepted, so is any other of 14 bits
  pub any_utco : (w : Writing) (a : Stamp) (u : ℕ) → w.content.time ≡ Some a → u < 2 ^ 14 → (write_for (other_utco w.content a u) w.streams (length w.out)).number ≡ 0
  -- the packet has the record's timestamp, so its UTCO too
  pub time : (w : Writing) → (read_back w).time ≡ w.content.time
  -- the packets follow each other exactly where the records do
  pub alike : (v w : Writing) → follows_for (read_back v) (read_back w) ≡ follows_for v.content w.content
  -- so, across a leap second, those of records with the next count, 400 ms on, and UTCO one apart
  pub leap : (v w : Writing) (a b : Stamp) → v.content.time ≡ Some a → w.content.time ≡ Some b → w.content.count ≡ (v.content.count + 1) % 2 ^ 32
      → elapsed b ≡ elapsed a + 400 → OneApart a.utco b.utco → (follows_for (read_back v) (read_back w)).yes ≡ true
