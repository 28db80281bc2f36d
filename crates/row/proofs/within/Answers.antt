-- `row::within` meets its contract. Assumes nothing.
use mathlib.Core.Path.{sym, ap}
use mathlib.Core.Bool.{Bool}
use Prim.Native.Nat.{ℕ}
use native.Mathlib.Omega.{arith}
use borrow.Author.Tests.{lt-ltb, le-ltb}
use Rattle.laws.specs.Pick.{pick}
use Rattle.row.proofs.within.Goals as goal

pub returns-then-size-start : goal.returns-then-size-start
returns-then-size-start c =
    let s : ℕ = c.args.start in
    (sym (ap (λ (b : Bool). pick b 0 s) (lt-ltb _ _ c.if-size-start.true)), omega arith)

pub returns-else-size-start : goal.returns-else-size-start
returns-else-size-start c =
    let s : ℕ = c.args.start in
    (sym (ap (λ (b : Bool). pick b 0 s) (le-ltb _ _ c.if-size-start.false)), c.if-size-start.false)
