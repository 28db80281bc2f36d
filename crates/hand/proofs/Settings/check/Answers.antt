-- `hand::Settings::check` meets its contract. Assumes nothing.
use native.Mathlib.Omega.{arith}
use Rattle.hand.proofs.Allowed.{no_p, over_p, no_n, over_n, unfit_a, unfit_b, unfit_c, over_shares, sum_fits}
use Rattle.hand.proofs.Settings.check.Goals as goal
use Rattle.hand.proofs.Settings.check.Goals.{then-p-eq0-via-then-p-eq0, then-p-eq0-via-else-p-eq0+then-p-gt255, then-p-eq0-via-else-p-eq0+else-p-gt255+then-n-eq0, then-p-eq0-via-else-p-eq0+else-p-gt255+else-n-eq0+then-p-n, then-p-eq0-via-else-p-eq0+else-p-gt255+else-n-eq0+else-p-n+then-is_unfit, then-p-eq0-via-else-p-eq0+else-p-gt255+else-n-eq0+else-p-n+else-is_unfit+then-is_unfit-2, then-p-eq0-via-else-p-eq0+else-p-gt255+else-n-eq0+else-p-n+else-is_unfit+else-is_unfit-2+then-is_unfit-3, then-p-eq0-via-else-p-eq0+else-p-gt255+else-n-eq0+else-p-n+else-is_unfit+else-is_unfit-2+else-is_unfit-3+then-n-sum}

pub sum-requires : goal.sum-requires
sum-requires c = omega (arith, sum_fits _ _ _ _ _ _ _ _ _ _ _ _ c.if-p-n.false c.is_unfit.ensures c.if-is_unfit.false c.is_unfit-else-is_unfit.ensures c.if-is_unfit-2.false c.is_unfit-else-is_unfit-2.ensures c.if-is_unfit-3.false)

pub returns-then-p-eq0 : goal.returns-then-p-eq0
returns-then-p-eq0 c =
    elim c.then-p-eq0.branch [
      | then-p-eq0-via-then-p-eq0 w ↦ search no_p
      | then-p-eq0-via-else-p-eq0+then-p-gt255 w ↦ search over_p
      | then-p-eq0-via-else-p-eq0+else-p-gt255+then-n-eq0 w ↦ search no_n
      | then-p-eq0-via-else-p-eq0+else-p-gt255+else-n-eq0+then-p-n w ↦ search over_n
      | then-p-eq0-via-else-p-eq0+else-p-gt255+else-n-eq0+else-p-n+then-is_unfit w ↦ search unfit_a
      | then-p-eq0-via-else-p-eq0+else-p-gt255+else-n-eq0+else-p-n+else-is_unfit+then-is_unfit-2 w ↦ search unfit_b
      | then-p-eq0-via-else-p-eq0+else-p-gt255+else-n-eq0+else-p-n+else-is_unfit+else-is_unfit-2+then-is_unfit-3 w ↦ search unfit_c
      | then-p-eq0-via-else-p-eq0+else-p-gt255+else-n-eq0+else-p-n+else-is_unfit+else-is_unfit-2+else-is_unfit-3+then-n-sum w ↦ over_shares _ (omega (arith, w.sum.ensures, w.if-n-sum.true))
    ]
