-- `hand::Settings::hand_out` meets its contract. Assumes nothing.
use mathlib.Core.Path.{refl}
use Rattle.std.proofs.lemmas.Result.{err_from_is_err_and}
use Rattle.refusal.specs.Refusal.{number_of}
use Rattle.refusal.proofs.Numbers.{number_ne0}
use Rattle.hand.proofs.Allowed.{allowed_by}
use Rattle.hand.proofs.Answer.{hand_refused, sum_in, met_in, got_fits, met_fits, hand_done}
use Rattle.hand.proofs.Settings.hand_out.Goals as goal

pub returns-in_err-check : goal.returns-in_err-check
returns-in_err-check c =
    let p = err_from_is_err_and c.from_residual.result c.from_residual.ensures.1 in
    rw (p.1, p.2) (hand_refused c.args.self c.args.waiting c.args.turn (number_of c.in_err-check.field-0.0) c.in_err-check.ensures (number_ne0 _))

pub plan-g-requires : goal.plan-g-requires
plan-g-requires c = (allowed_by _ _ c.in_ok-check.ensures refl).shares

pub sum-sum-requires : goal.sum-sum-requires
sum-sum-requires c = got_fits _ _ _ c.in_ok-check.ensures _ c.low-met.ensures _ c.plan-g.ensures

pub sum-requires : goal.sum-requires
sum-requires c = met_fits _ _ _ c.in_ok-check.ensures _ c.low-met.ensures _ c.plan-g.ensures

pub overflow_sub-result : goal.overflow_sub-result
overflow_sub-result c = rw (c.sum-sum.ensures, c.sum.ensures) (met_in _ _ _ c.in_ok-check.ensures _ c.low-met.ensures _ c.plan-g.ensures)

pub overflow_sub-result-2 : goal.overflow_sub-result-2
overflow_sub-result-2 c = rw c.sum-sum.ensures (sum_in _ _ _ c.in_ok-check.ensures _ c.low-met.ensures _ c.plan-g.ensures)

pub returns : goal.returns
returns c = hand_done _ _ _ c.in_ok-check.ensures _ c.low-met.ensures _ c.plan-g.ensures _ _ c.sum-sum.ensures c.sum.ensures
