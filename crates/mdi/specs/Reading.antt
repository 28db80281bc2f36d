-- The record of an MDI packet and the bytes of its streams (01, "MDI packet"). Assumes nothing.
use Rattle.std.specs.Prelude.{ℕ, Option, None, Some, ◌+◌, List, [], Result, Ok, Err, eqb, ltb, get_or}
use Rattle.laws.specs.Big.{number_at}
use Rattle.laws.specs.Pick.{pick}
use Rattle.laws.specs.Refuse.{refused_with, refused_at}
use Rattle.clock.specs.declared.Stamp.{Stamp}
use Rattle.clock.specs.Stamps.{decoded_for}
use Rattle.description.specs.Bytes.{described_by}
use Rattle.fac.specs.Channel.{fac_of}
use Rattle.sdc.specs.Block.{sdc_of}
use Rattle.record.specs.Records.{no_record}
use Rattle.record.specs.declared.Record.{Record}
use Rattle.items.specs.Items.{Item, Found, none, some, cut_of, find, value_of}
use Rattle.mdi_spots.specs.Names.{dlfc, fac, sdc, sdci, robm, tist}
use Rattle.mdi_spots.specs.Table.{name_of}
use Rattle.mdi.specs.Refusals.{tests_for}
use Rattle.mdi.specs.declared.Answer.{Answer}
use Rattle.refusal.specs.Refusal.{number_of}
use Rattle.refusal.specs.declared.Refused.{Refused}

-- the timestamp, where the item is there
unfoldable pub time_of : Found → Option Stamp
time_of none = None
time_of (some i) = Some (decoded_for i.value).stamp

-- what the items say
unfoldable pub record_of : List Item → Record
record_of is =
    record {
      count = number_at 4 (value_of (find dlfc is)) 0;
      fac = fac_of (value_of (find fac is));
      sdc = sdc_of (value_of (find sdc is));
      description = described_by (value_of (find sdci is));
      robustness = get_or (value_of (find robm is)) 0 0;
      time = time_of (find tist is);
    }

-- what a reader's answer says
abbrev pub read_in : Result Record Refused → Answer
read_in (Ok r) = record { number = 0; place = 0; content = r }
read_in (Err r) = record { number = number_of r.why; place = r.place; content = no_record }

-- the number and place of the refusal, and the record of a packet that is not refused
unfoldable pub read_for : List ℕ → Answer
read_for packet =
    let n = refused_with (tests_for packet) in
    record { number = n; place = refused_at (tests_for packet); content = pick (eqb n 0) (record_of (cut_of packet).items) no_record }

-- the bytes of stream k, which stands in row 6 + k of the table: none where there is no such item, or k is over 3
unfoldable pub stream_of : List Item → ℕ → List ℕ
stream_of is k = pick (ltb 3 k) [] (value_of (find (name_of (6 + k)) is))

-- and none where the packet is refused
unfoldable pub stream_for : List ℕ → ℕ → List ℕ
stream_for packet k = pick (eqb (refused_with (tests_for packet)) 0) (stream_of (cut_of packet).items k) []
