-- `summary_text::summary` meets its contract. Assumes nothing.
use native.Mathlib.Omega.{arith}
use Rattle.stamp_text.proofs.Ways.{dated_by}
use Rattle.summary_text.specs.Summary.{summary_text}
use Rattle.moves.proofs.Pieces.{puts_then}
use Rattle.line_text.proofs.Room.{fit}
use Rattle.summary_text.proofs.summary.Goals as goal

pub returns : goal.returns
unfolding summary_text
returns c =
    let p0 = fit (omega arith) c.line-a.ensures.1 in
    let p1 = fit (omega arith) c.line-b.ensures.1 in
    let p2 = c.put_numbers-c.ensures.1 in
    let p3 = fit (omega arith) c.line-f.ensures.1 in
    let p4 = c.put_whens.ensures.1 in
    record {
      date = _;
      until = _;
      dated = dated_by _ _ _ c.since.ensures c.utc-d.ensures;
      dated_until = dated_by _ _ _ c.since-2.ensures c.utc-e.ensures;
      text = puts_then (omega arith) p0 (puts_then (omega arith) p1 (puts_then (omega arith) p2 (puts_then (omega arith) p3 p4)));
    }
