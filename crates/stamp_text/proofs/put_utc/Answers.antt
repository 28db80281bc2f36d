-- `stamp_text::put_utc` meets its contract. Assumes nothing.
use native.Mathlib.Omega.{arith}
use Rattle.stamp_text.proofs.Ways.{utc_none, utc_some}
use Rattle.line_text.proofs.Room.{fit}
use Rattle.stamp_text.proofs.put_utc.Goals as goal

pub returns-then-s : goal.returns-then-s
returns-then-s c =
    let p0 = fit (omega arith) c.word.ensures.1 in
    (omega arith, utc_none _ _ c.if-s.true p0)

pub returns : goal.returns
returns c =
    let p0 = c.put_date.ensures.1 in
    (omega arith, utc_some _ _ c.if-s.false p0)
