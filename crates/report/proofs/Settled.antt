-- Each promise settles its call: two outcomes that meet it for the same input are equal (01, "Acceptance of the promises"). Assumes nothing.
use Rattle.std.proofs.Common.{◌≡◌, ℕ, List, sym, ◌∙◌, ap₂}
use Rattle.laws.specs.Settle.{Settles}
use Rattle.laws.specs.Written.{written}
use Rattle.laws.proofs.Settle.{settled, settled_both}
use Rattle.walk.specs.Walk.{work_for}
use Rattle.report.specs.declared.Report.{Report}
use Rattle.report.specs.declared.Shown.{Shown}
use Rattle.report.specs.declared.Closed.{Closed}
use Rattle.report.specs.Report.{begun_for, shown_for, break_for, line_for, closed_for, summary_for, refusal_for}

pub begin : Settles (λ (first : List ℕ) (r : Report). r ≡ begun_for first)
begin = settled begun_for

-- an input is the report, the work buffer before the call, the block, and both lines before the call
abbrev Fed : Type 0
Fed = Report × List ℕ × List ℕ × List ℕ × List ℕ

pub feed : Settles (λ (i : Fed) (o : (Shown × List ℕ) × (List ℕ × List ℕ)).
    ((o.0.0 ≡ shown_for i.0 i.1 i.2) × (o.0.1 ≡ work_for i.0.walk i.1 i.2))
    × ((o.1.0 ≡ written i.3 0 (break_for i.0 i.1 i.2)) × (o.1.1 ≡ written i.4 0 (line_for i.0 i.1 i.2))))
feed i x y p q =
    ap₂
    (λ a m. (a, m))
    (settled_both (λ (i : Fed). shown_for i.0 i.1 i.2) (λ i. work_for i.0.walk i.1 i.2) i x.0 y.0 p.0 q.0)
    (settled_both
    (λ (i : Fed). written i.3 0 (break_for i.0 i.1 i.2))
    (λ i. written i.4 0 (line_for i.0 i.1 i.2)) i x.1 y.1 p.1 q.1)

-- an input is the report, and both texts before the call
pub end : Settles (λ (i : Report × List ℕ × List ℕ) (o : Closed × (List ℕ × List ℕ)).
    (o.0 ≡ closed_for i.0) × ((o.1.0 ≡ written i.1 0 (summary_for i.0)) × (o.1.1 ≡ written i.2 0 (refusal_for i.0))))
end i x y p q =
    ap₂
    (λ a m. (a, m))
    (p.0 ∙ sym q.0)
    (settled_both
    (λ (i : Report × List ℕ × List ℕ). written i.1 0 (summary_for i.0))
    (λ i. written i.2 0 (refusal_for i.0)) i x.1 y.1 p.1 q.1)
