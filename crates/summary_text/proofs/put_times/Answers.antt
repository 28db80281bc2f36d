-- `summary_text::put_times` meets its contract. Assumes nothing.
use native.Mathlib.Omega.{arith}
use Rattle.summary_text.proofs.Numbers.{times_none, times_some}
use Rattle.line_text.proofs.Room.{fit}
use Rattle.summary_text.proofs.put_times.Goals as goal

pub returns-then-times-eq0 : goal.returns-then-times-eq0
returns-then-times-eq0 c = (omega arith, times_none _ _ _ _ c.if-times-eq0.true)

pub returns : goal.returns
returns c =
    let p0 = fit (omega arith) c.pair.ensures.1 in
    (omega arith, times_some _ _ c.if-times-eq0.false p0)
