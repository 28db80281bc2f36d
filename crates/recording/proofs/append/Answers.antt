-- `recording::append` meets its contract. Assumes nothing.
use native.Mathlib.Omega.{arith}
use Rattle.recording.proofs.Answers.{append_long, append_short, append_done}
use Rattle.recording.proofs.append.Goals.{then-room-need-via-then-room-need, then-room-need-via-else-room-need+then-room-need-2}
use Rattle.recording.proofs.append.Goals as goal

pub returns-then-size-gt-LONGEST : goal.returns-then-size-gt-LONGEST
returns-then-size-gt-LONGEST c = let both = append_long _ _ _ c.if-size-gt-LONGEST.true in record { answer = both.0; memory = both.1 }

pub returns-then-room-need : goal.returns-then-room-need
returns-then-room-need c =
    let both = append_short _ _ _ c.if-size-gt-LONGEST.false
    (elim c.then-room-need.branch [ then-room-need-via-then-room-need w ↦ omega (arith, w.if-room-need) | then-room-need-via-else-room-need+then-room-need-2 w ↦ omega (arith, w.if-room-need, w.if-room-need-2) ]) in
    record { answer = both.0; memory = both.1 }

pub returns : goal.returns
returns c = let both = append_done _ _ _ c.if-size-gt-LONGEST.false (omega arith) _ c.write32.ensures.1 _ c.copy.ensures in record { answer = both.0; memory = both.1 }
