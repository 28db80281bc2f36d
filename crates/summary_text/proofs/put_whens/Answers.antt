-- `summary_text::put_whens` meets its contract. Assumes nothing.
use native.Mathlib.Omega.{arith}
use Rattle.summary_text.specs.Summary.{whens_text}
use Rattle.moves.proofs.Pieces.{puts_then}
use Rattle.summary_text.proofs.put_whens.Goals as goal

pub returns : goal.returns
unfolding whens_text
returns c =
    let p0 = c.put_when-a.ensures.1 in
    let p1 = c.put_when.ensures.1 in
    (omega arith, puts_then (omega arith) p0 p1)
