-- `inspect_text::broken` meets its contract. Assumes nothing.
use mathlib.Core.Path.{sym, ◌∙◌}
use native.Mathlib.Omega.{arith}
use Rattle.inspect_text.proofs.Breaks.{break_none, break_some}
use Rattle.moves.proofs.Pieces.{puts_then}
use Rattle.line_text.proofs.Room.{fit}
use Rattle.inspect_text.proofs.broken.Goals as goal

pub returns-then-unwrap_or : goal.returns-then-unwrap_or
returns-then-unwrap_or c = break_none _ _ _ _ c.follows.result c.follows.ensures (sym c.unwrap_or.ensures ∙ c.if-unwrap_or.true)

pub returns : goal.returns
returns c =
    let p0 = c.put_count-a.ensures.1 in
    let p1 = c.put_count-b.ensures.1 in
    let p2 = fit (omega arith) c.word.ensures.1 in
    break_some _ _ c.follows.result c.follows.ensures (sym c.unwrap_or.ensures ∙ c.if-unwrap_or.false) (puts_then (omega arith) p0 (puts_then (omega arith) p1 p2))
