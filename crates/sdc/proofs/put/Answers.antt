-- `sdc::put` meets its contract. Assumes nothing.
use Rattle.std.proofs.Common.{rules}
use native.Mathlib.Omega.{arith}
use mathlib.Core.Path.{◌≡◌}
use lib.ListN.{length}
use Rattle.sdc.proofs.Writing.{put_fits, put_out, put_none}
use Rattle.sdc.proofs.put.Goals as goal
use Rattle.sdc.proofs.put.Goals.{else-n-out-via-then-n-out+else-at-out, else-n-out-via-else-n-out}

pub returns-then-at-out : goal.returns-then-at-out
returns-then-at-out c =
    let n : length c.args.s.body ≡ 1024 = search rules in
    put_fits c.args.s _ _ c.in-Some.is n c.min-n.ensures c.args.out.now c.args.at (omega arith) _ c.put_sealed.ensures

pub returns-else-n-out : goal.returns-else-n-out
returns-else-n-out c =
    let n : length c.args.s.body ≡ 1024 = search rules in
    put_out c.args.s _ _ c.in-Some.is n c.min-n.ensures c.args.out.now c.args.at
    (elim c.else-n-out.branch [ else-n-out-via-then-n-out+else-at-out w ↦ omega arith | else-n-out-via-else-n-out w ↦ omega arith ])

pub returns-in_default : goal.returns-in_default
returns-in_default c = put_none c.args.s c.args.out.now c.args.at c.in_default.is
