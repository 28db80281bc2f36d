-- What `inspect` prints of a recording (01, "Clock and recordings"), call by call. Assumes nothing.
use Rattle.std.specs.Prelude.{ℕ, Bool, true, false, not, ◌&&◌, List, [], length, ◌==◌}
use Rattle.laws.specs.Pick.{pick}
use Rattle.calendar.specs.Dates.{date_of}
use Rattle.inspect_text.specs.Break.{break_text}
use Rattle.inspect_text.specs.Inspect.{packet_text, refused_text}
use Rattle.summary_text.specs.Summary.{summary_text}
use Rattle.mdi.specs.Reading.{read_for}
use Rattle.mdi.specs.declared.Answer.{Answer}
use Rattle.record.specs.Records.{no_record}
use Rattle.stamp_text.specs.Stamp.{since}
use Rattle.tally.specs.Tally.{no_tally, counted_for, up}
use Rattle.walk.specs.Walk as walks
use Rattle.walk.specs.declared.Ended.{Ended}
use Rattle.report.specs.declared.Seen.{Seen}
use Rattle.report.specs.declared.Report.{Report}
use Rattle.report.specs.declared.Shown.{Shown}
use Rattle.report.specs.declared.Closed.{Closed}

-- ---- one packet, by what reading it gave

-- the line of a break before it: a packet that was read is compared with the last one that was
unfoldable pub break_of : Seen → Answer → List ℕ
break_of s a = pick (a.number == 0 && s.any) (break_text s.last a.content) []

-- its own line, with its number and its offset in the file
unfoldable pub line_of : Seen → ℕ → Answer → List ℕ
line_of s at a = packet_text (up s.tally.packets) at a (date_of (since a.content.time))

-- what is seen after it: a packet that was read is the last one
unfoldable pub seen_after : Seen → Answer → Seen
seen_after s a = record {
  tally = counted_for s.tally a (not (length (break_of s a) == 0));
  any = pick (a.number == 0) true s.any;
  last = pick (a.number == 0) a.content s.last;
}

-- ---- the calls

unfoldable pub no_seen : Seen
no_seen = record { tally = no_tally; any = false; last = no_record }

unfoldable pub begun_for : List ℕ → Report
begun_for first = record { walk = walks.begun_for first; seen = no_seen }

-- a packet is whole, and what reading it gives
unfoldable pub is_whole : Report → List ℕ → List ℕ → Bool
is_whole r work block = (walks.fed_for r.walk work block).whole

unfoldable pub answer_in : Report → List ℕ → List ℕ → Answer
answer_in r work block = read_for (walks.packet_at (walks.work_for r.walk work block) (walks.fed_for r.walk work block).size)

unfoldable pub break_for : Report → List ℕ → List ℕ → List ℕ
break_for r work block = pick (is_whole r work block) (break_of r.seen (answer_in r work block)) []

unfoldable pub line_for : Report → List ℕ → List ℕ → List ℕ
line_for r work block = pick (is_whole r work block) (line_of r.seen r.walk.at (answer_in r work block)) []

unfoldable pub seen_for : Report → List ℕ → List ℕ → Seen
seen_for r work block = pick (is_whole r work block) (seen_after r.seen (answer_in r work block)) r.seen

unfoldable pub shown_for : Report → List ℕ → List ℕ → Shown
shown_for r work block = record {
  report = record { walk = (walks.fed_for r.walk work block).walk; seen = seen_for r work block };
  taken = (walks.fed_for r.walk work block).taken;
  broken = length (break_for r work block);
  line = length (line_for r work block);
}

-- ---- the end

unfoldable pub summary_of : Seen → List ℕ
summary_of s = summary_text s.tally (date_of (since s.tally.first)) (date_of (since s.tally.last))

unfoldable pub refusal_of : Ended → List ℕ
refusal_of e = pick (e.number == 0) [] (refused_text e.number e.place)

unfoldable pub summary_for : Report → List ℕ
summary_for r = summary_of r.seen

unfoldable pub refusal_for : Report → List ℕ
refusal_for r = refusal_of (walks.ended_for r.walk)

unfoldable pub closed_for : Report → Closed
closed_for r = record { summary = length (summary_for r); refusal = length (refusal_for r) }
