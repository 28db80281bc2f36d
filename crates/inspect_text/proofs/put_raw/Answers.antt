-- `inspect_text::put_raw` meets its contract. Assumes nothing.
use native.Mathlib.Omega.{arith}
use Rattle.inspect_text.proofs.Breaks.{raw_none, raw_given}
use Rattle.line_text.proofs.Room.{fit}
use borrow.Author.Rules.{rules}
use Rattle.inspect_text.proofs.put_raw.Goals as goal

pub returns-in-None : goal.returns-in-None
returns-in-None c =
    let p0 = fit (omega arith) c.word.ensures.1 in
    (omega arith, raw_none _ (search rules) p0)

pub returns-in-Some : goal.returns-in-Some
returns-in-Some c =
    let p0 = c.put_raw_stamp.ensures.1 in
    (omega arith, raw_given _ _ (search rules) p0)
