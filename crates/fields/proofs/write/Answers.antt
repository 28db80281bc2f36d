-- `fields::write` meets its contract. Assumes nothing.
use mathlib.Core.Path.{◌≡◌, sym, ap, ◌∙◌}
use Prim.Native.Nat.{ℕ, ◌+◌, ◌-◌}
use native.Mathlib.Omega.{arith}
use borrow.Author.Tests.{le-leb}
use lib.ListN.{length}
use Rattle.fields.specs.Numbers.{put_at}
use Rattle.fields.proofs.Writing.{write_out, put_none, put_last}
use Rattle.fields.proofs.write.Goals as goal
use Rattle.fields.proofs.write.Goals.{then-dst-n-via-then-dst-n, then-dst-n-via-else-dst-n+then-dst-n-2}

pub returns-then-dst-n : goal.returns-then-dst-n
returns-then-dst-n c =
    let a = c.args in
    elim c.then-dst-n.branch [
      | then-dst-n-via-then-dst-n w ↦ write_out a.n a.dst.now a.at a.v (omega arith)
      | then-dst-n-via-else-dst-n+then-dst-n-2 w ↦ write_out a.n a.dst.now a.at a.v (omega arith)
    ]

pub loop-i-preserved : goal.loop-i-preserved
loop-i-preserved c =
    let l = c.loop-i in
    let at = c.args.at in
    let e : l.i - 1 + 1 ≡ l.i = omega arith in
    put_last (l.i - 1) l.dst at l.rest (omega arith) ∙ ap (λ (k : ℕ). put_at k l.dst at l.rest) e ∙ l.invariant

pub returns : goal.returns
returns c =
    let l = c.loop-i in
    let a = c.args in
    let z : l.i ≡ 0 = omega arith in
    let e : put_at 0 l.dst a.at l.rest ≡ put_at a.n a.dst.now a.at a.v = rw z at l.invariant in
    (sym (le-leb (a.at + a.n) (length a.dst.now) (omega arith)), sym (put_none l.dst a.at l.rest (omega arith)) ∙ e)
