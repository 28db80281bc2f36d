-- What `inspect` prints of a whole recording, and a run of its calls over blocks of any length (01, "Clock and recordings"). The packets are
-- those of the entries cut off, which are those that `recording::next` gives (crates/walk/specs/Whole.antt). Assumes nothing.
use Rattle.std.specs.Prelude.{ℕ, zero, suc, ◌+◌, ◌%◌, ◌^◌, List, [], ◌∷◌, ◌++◌, length, drop, ◌==◌}
use Rattle.laws.specs.Pick.{pick}
use Rattle.cutting.specs.Cutting.{Cut, cut_of, all_of, end_number, end_place}
use Rattle.mdi.specs.Reading.{read_for}
use Rattle.recording.specs.Recording.{opened_for}
use Rattle.walk.specs.Entries.{entry_says}
use Rattle.walk.specs.Walk as walks
use Rattle.walk.specs.Whole.{packets_of}
use Rattle.report.specs.declared.Seen.{Seen}
use Rattle.report.specs.declared.Report.{Report}
use Rattle.report.specs.Report.{break_of, line_of, seen_after, no_seen, begun_for, break_for, line_for, shown_for, summary_of, refusal_of, summary_for, refusal_for}

-- ---- a whole recording

-- the lines of packets, the first of whose entries stands at an offset, and what is seen after them
unfoldable pub text_of : Seen → ℕ → List (List ℕ) → List ℕ
text_of s at [] = []
text_of s at (p ∷ ps) = (break_of s (read_for p) ++ line_of s (at % 2 ^ 64) (read_for p)) ++ text_of (seen_after s (read_for p)) (at + 4 + length p) ps

unfoldable pub seen_of : Seen → List (List ℕ) → Seen
seen_of s [] = s
seen_of s (p ∷ ps) = seen_of (seen_after s (read_for p)) ps

-- the summary, and the refusal with which the walk ended
unfoldable pub closing : Seen → ℕ → ℕ → List ℕ
closing s number place = summary_of s ++ refusal_of (record { number = number; place = place })

unfoldable pub body_of : Cut → List ℕ
body_of c =
    text_of no_seen 1 (packets_of c.records)
    ++ closing (seen_of no_seen (packets_of c.records)) (end_number c.sign c.rest) (end_place c.sign c.rest ((1 + length (all_of c.records)) % 2 ^ 64))

-- all that is printed
unfoldable pub report_of : List ℕ → List ℕ
report_of file = pick ((opened_for file).number == 0) (body_of (cut_of entry_says (drop 1 file))) (closing no_seen (opened_for file).number 0)

-- ---- a run: the state, the work buffer and what was printed
pub record State : Type 0 where
  pub report : Report
  pub work : List ℕ
  pub printed : List ℕ

unfoldable pub started : List ℕ → List ℕ → State
started first work = record { report = begun_for first; work = work; printed = [] }

-- one call, and its lines printed
unfoldable pub once : State → List ℕ → State
once st block = record {
  report = (shown_for st.report st.work block).report;
  work = walks.work_for st.report.walk st.work block;
  printed = st.printed ++ (break_for st.report st.work block ++ line_for st.report st.work block);
}

-- a block handed over until all of it is taken; n bytes need at most n calls
unfoldable pub handed : ℕ → State → List ℕ → State
handed zero st block = st
handed (suc n) st [] = st
handed (suc n) st (x ∷ block) = handed n (once st (x ∷ block)) (drop (shown_for st.report st.work (x ∷ block)).taken (x ∷ block))

unfoldable pub ran : State → List (List ℕ) → State
ran st [] = st
ran st (b ∷ bs) = ran (handed (length b) st b) bs

-- the end of the run
unfoldable pub ended : State → List ℕ
ended st = st.printed ++ (summary_for st.report ++ refusal_for st.report)
