-- `stamp_text::put_time` meets its contract. Assumes nothing.
use native.Mathlib.Omega.{arith}
use Rattle.stamp_text.proofs.Ways.{time_none, time_given}
use Rattle.line_text.proofs.Room.{fit}
use borrow.Author.Rules.{rules}
use Rattle.stamp_text.proofs.put_time.Goals as goal

pub returns-in-None : goal.returns-in-None
returns-in-None c =
    let p0 = fit (omega arith) c.word.ensures.1 in
    (omega arith, time_none _ _ (search rules) p0)

pub returns-in-Some : goal.returns-in-Some
returns-in-Some c =
    let p0 = c.put_stamp.ensures.1 in
    (omega arith, time_given _ _ _ (search rules) p0)
