-- `stamp_text::time` meets its contract. Assumes nothing.
use native.Mathlib.Omega.{arith}
use Rattle.line_text.proofs.Room.{no_room, placed}
use Rattle.stamp_text.proofs.time.Goals as goal

pub returns-then-out-at : goal.returns-then-out-at
returns-then-out-at c = (omega arith, no_room _ _ _ _ (omega arith))

pub returns-then-out-at-lt69 : goal.returns-then-out-at-lt69
returns-then-out-at-lt69 c = (omega arith, no_room _ _ _ _ (omega arith))

pub returns : goal.returns
returns c =
    let p0 = c.put_time.ensures.1 in
    (omega arith, placed _ _ _ _ _ _ (omega arith) p0)
