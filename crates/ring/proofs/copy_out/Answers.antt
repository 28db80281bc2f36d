-- `ring::copy_out` meets its contract. Assumes nothing.
use native.Mathlib.Omega.{arith}
use Rattle.ring.proofs.Calls.{out_far, out_long, out_short, out_one, out_two}
use Rattle.ring.proofs.copy_out.Goals as goal
use Rattle.ring.proofs.copy_out.Goals.{then-ring-at-via-then-ring-at, then-ring-at-via-else-ring-at+then-ring-n, then-ring-at-via-else-ring-at+else-ring-n+then-dst-n}

pub returns-then-ring-at : goal.returns-then-ring-at
returns-then-ring-at c =
    elim c.then-ring-at.branch [
      | then-ring-at-via-then-ring-at w ↦ out_far _ _ _ _ w.if-ring-at.true
      | then-ring-at-via-else-ring-at+then-ring-n w ↦ out_long _ _ _ _ w.if-ring-n.true
      | then-ring-at-via-else-ring-at+else-ring-n+then-dst-n w ↦ out_short _ _ _ _ w.if-dst-n.true
    ]

pub returns-then-n-back : goal.returns-then-n-back
returns-then-n-back c =
    out_one _ _ _ _ c.if-ring-at.false c.if-ring-n.false c.if-dst-n.false _ _ c.split_at.ensures.front c.split_at.ensures.back _ _ c.if-n-back.true
    c.copy.ensures (omega arith)

pub returns-else-n-back : goal.returns-else-n-back
returns-else-n-back c =
    out_two _ _ _ _ c.if-ring-at.false c.if-ring-n.false c.if-dst-n.false _ _ c.split_at.ensures.front c.split_at.ensures.back _ _ _ c.if-n-back.false
    c.copy-else-n-back.ensures c.copy-else-n-back-2.ensures (omega arith)
