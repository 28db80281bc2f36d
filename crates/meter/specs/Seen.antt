-- What the exports for MDI packets give back (01, "MDI packet"): the library's answers, and of a record what shows that it was made. Assumes
-- nothing.
use Rattle.std.specs.Prelude.{ℕ, Some, List, get_or}
use Rattle.clock.specs.Stamps.{decoded_for}
use Rattle.description.specs.Bytes.{described_by}
use Rattle.fac.specs.Channel.{fac_of}
use Rattle.sdc.specs.Block.{sdc_of}
use Rattle.record.specs.declared.Record.{Record}
use Rattle.mdi.specs.Reading.{read_for}
use Rattle.mdi_write.specs.Answers.{write_for}
use Rattle.mdi_write.specs.Packet.{Streams}
use Rattle.meter.specs.declared.Seen.{Seen}

-- the number, and three fields and a data byte of the record
unfoldable pub seen_in : List ℕ → ℕ → Seen
seen_in packet at =
    let a = read_for packet in
    record {
      number = a.number;
      count = a.content.count;
      service = a.content.fac.service;
      robustness = a.content.robustness;
      byte = get_or a.content.sdc.body at 0;
    }

-- a record out of a count, a mode and the values of four items
unfoldable pub record_for : ℕ → List ℕ → List ℕ → List ℕ → ℕ → List ℕ → Record
record_for count fac sdc sdci robustness tist =
    record {
      count = count;
      fac = fac_of fac;
      sdc = sdc_of sdc;
      description = described_by sdci;
      robustness = robustness;
      time = Some (decoded_for tist).stamp;
    }

-- the number of a write
abbrev pub wrote_for : Record → Streams → ℕ → ℕ
wrote_for r ss room = (write_for r ss room).number
