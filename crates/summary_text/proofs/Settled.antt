-- The promise settles the call: two outcomes that meet it for the same input are equal (01, "Acceptance of the promises"). Assumes nothing.
use Prim.Native.Nat.{ℕ}
use mathlib.Core.List.{List}
use mathlib.Core.Path.{subst}
use Rattle.laws.specs.Settle.{Settles}
use Rattle.calendar.specs.declared.Date.{Date}
use Rattle.calendar.proofs.Parts.{one_date}
use Rattle.moves.specs.Moves.{Puts}
use Rattle.moves.proofs.Pieces.{puts_once}
use Rattle.stamp_text.specs.Stamp.{since}
use Rattle.tally.specs.declared.Tally.{Tally}
use Rattle.summary_text.specs.Summary.{summary_text, Summary}

-- `summary`: with the dates of the first and of the last timestamp
pub summary_text_law : Settles (λ (i : Tally × List ℕ) (o : ℕ × List ℕ). Summary i.0 i.1 o.1 o.0)
summary_text_law i x y p q =
    let e = one_date (since i.0.first) q.date p.date q.dated p.dated in
    let u = one_date (since i.0.last) q.until p.until q.dated_until p.dated_until in
    puts_once i.1 0 (summary_text i.0 p.date p.until) x y p.text
    (subst (λ (d : Date). Puts i.1 0 (summary_text i.0 p.date d) y.1 y.0) u
    (subst (λ (d : Date). Puts i.1 0 (summary_text i.0 d q.until) y.1 y.0) e q.text))
