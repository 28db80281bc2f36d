-- `inspect_text::line` meets its contract. Assumes nothing.
use native.Mathlib.Omega.{arith}
use Rattle.inspect_text.specs.Inspect.{refused_text}
use Rattle.stamp_text.proofs.Ways.{dated_by}
use Rattle.inspect_text.proofs.Ways.{line_refused, line_read}
use Rattle.moves.proofs.Pieces.{puts_then}
use Rattle.line_text.proofs.Room.{fit}
use Rattle.inspect_text.proofs.line.Goals as goal

pub returns-then-x-ne0 : goal.returns-then-x-ne0
unfolding refused_text
returns-then-x-ne0 c =
    let p0 = c.put_head-a.ensures.1 in
    let p1 = fit (omega arith) c.word-b.ensures.1 in
    let p2 = fit (omega arith) c.pair.ensures.1 in
    record { date = _; dated = dated_by _ _ _ c.since.ensures c.utc-d.ensures; text = line_refused _ _ _ _ c.if-x-ne0.true (puts_then (omega arith) p0 (puts_then (omega arith) p1 p2)) }

pub returns : goal.returns
returns c =
    let p0 = c.put_head-a.ensures.1 in
    let p1 = c.put_content.ensures.1 in
    record { date = _; dated = dated_by _ _ _ c.since.ensures c.utc-d.ensures; text = line_read _ _ _ _ c.if-x-ne0.false (puts_then (omega arith) p0 p1) }
