-- `plans::Plans::hand_out` meets its contract. Assumes nothing.
use mathlib.Core.Path.{refl}
use Rattle.std.proofs.lemmas.Result.{err_from_is_err_and}
use Rattle.refusal.specs.Refusal.{number_of}
use Rattle.refusal.proofs.Numbers.{number_ne0}
use Rattle.plans.proofs.Ways.{hand_refused, hand_done}
use Rattle.plans.proofs.Plans.hand_out.Goals as goal

pub returns-in_err-check : goal.returns-in_err-check
returns-in_err-check c =
    let p = err_from_is_err_and c.from_residual.result c.from_residual.ensures.1 in
    rw (p.1, p.2) (hand_refused c.args.self c.args.count c.args.waiting c.args.turn (number_of c.in_err-check.field-0.0) c.in_err-check.ensures (number_ne0 _))

pub returns : goal.returns
returns c = hand_done _ _ _ _ _ c.in_ok-check.ensures refl _ c.in_force-then.ensures _ c.hand_out.ensures
