-- `stamp_text::put_two` meets its contract. Assumes nothing.
use native.Mathlib.Omega.{arith}
use Rattle.stamp_text.specs.Date.{two_text}
use Rattle.line_text.proofs.Room.{fit}
use Rattle.stamp_text.proofs.put_two.Goals as goal

pub returns : goal.returns
unfolding two_text
returns c =
    let p0 = fit (omega arith) c.word.ensures.1 in
    (omega arith, p0)
