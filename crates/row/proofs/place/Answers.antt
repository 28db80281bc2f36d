-- `row::place` meets its contract. Assumes nothing.
use mathlib.Core.Path.{sym}
use native.Mathlib.Omega.{arith}
use Rattle.ring.proofs.Turned.{ahead_before, ahead_behind}
use Rattle.row.proofs.place.Goals as goal

pub returns-then-a-k : goal.returns-then-a-k
returns-then-a-k c =
    let a = c.args in
    (sym (ahead_before a.size a.start a.a (omega arith)), omega arith)

pub returns : goal.returns
returns c =
    let a = c.args in
    (omega (arith, ahead_behind a.size a.start a.a (omega arith)), omega arith)
