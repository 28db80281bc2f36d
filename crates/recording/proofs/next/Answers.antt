-- `recording::next` meets its contract. Assumes nothing.
use Prim.Native.Nat.{◌+◌, ◌<◌}
use native.Mathlib.Omega.{arith}
use lib.ListN.{length}
use Rattle.recording.proofs.Answers.{answered, step_end, step_past, step_long, step_cut, step_entry}
use Rattle.recording.proofs.next.Goals.{then-end-at-via-then-end-at, then-end-at-via-else-end-at+then-end-at-lt4}
use Rattle.recording.proofs.next.Goals as goal

pub returns-then-at-end : goal.returns-then-at-end
returns-then-at-end c = let both = answered c.args.file.now _ _ (step_end _ _ c.if-at-end.true) in record { answer = both.0; values = both.1 }

pub returns-then-end-at : goal.returns-then-end-at
returns-then-end-at c =
    let past : length c.args.file.now < c.args.at + 4 =
    elim c.then-end-at.branch [ then-end-at-via-then-end-at w ↦ omega (arith, w.if-end-at) | then-end-at-via-else-end-at+then-end-at-lt4 w ↦ omega (arith, w.if-end-at, w.if-end-at-lt4) ] in
    let both = answered c.args.file.now _ _ (step_past _ _ c.if-at-end.false past) in record { answer = both.0; values = both.1 }

pub returns-then-length-gt-LONGEST : goal.returns-then-length-gt-LONGEST
returns-then-length-gt-LONGEST c = let both = answered c.args.file.now _ _ (step_long _ _ (omega arith) _ c.read32-length.ensures c.if-length-gt-LONGEST.true) in record { answer = both.0; values = both.1 }

pub returns-then-end-start : goal.returns-then-end-start
returns-then-end-start c = let both = answered c.args.file.now _ _ (step_cut _ _ (omega arith) _ c.read32-length.ensures c.if-length-gt-LONGEST.false (omega (arith, c.from.ensures))) in record { answer = both.0; values = both.1 }

pub returns : goal.returns
returns c = let both = answered c.args.file.now _ _ (rw c.from-2.ensures (step_entry _ _ (omega arith) _ c.read32-length.ensures c.if-length-gt-LONGEST.false (omega (arith, c.from.ensures)))) in record { answer = both.0; values = both.1 }
