-- `sender::Sender::is_stray` meets its contract. Assumes nothing.
use mathlib.Core.Path.{◌∙◌}
use native.Mathlib.Omega.{arith}
use borrow.Author.Tests.{lt-ltb}
use lib.Dec.{lit<}
use Rattle.sender.proofs.Checks.{strayed_at, strayed_last}
use Rattle.sender.proofs.Sender.is_stray.Goals as goal
use Rattle.sender.proofs.Sender.is_stray.Goals.{then-a-gt4095, else-a-gt4095}

pub returns-then-b-gt4095 : goal.returns-then-b-gt4095
returns-then-b-gt4095 c =
    let e = c.if-b-gt4095.either in
    elim c.if-a-gt4095.branch [
      | then-a-gt4095 w ↦ w.t-13-is ∙ lt-ltb _ _ w.if-a-gt4095.true ∙ strayed_at c.args.self 0 (lit< tt) w.if-a-gt4095.true
      | else-a-gt4095 w ↦ w.t-13-is ∙ lt-ltb _ _ (omega arith) ∙ strayed_at c.args.self 1 (lit< tt) (omega arith)
    ]

pub returns-else-b-gt4095 : goal.returns-else-b-gt4095
returns-else-b-gt4095 c = strayed_last _ c.if-b-gt4095.false.0 c.if-b-gt4095.false.1
