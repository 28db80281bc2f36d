-- `plans::Plans::change` meets its contract. Assumes nothing.
use mathlib.Core.Path.{refl}
use Rattle.std.proofs.lemmas.Result.{err_from_is_err_and}
use Rattle.refusal.specs.Refusal.{number_of}
use Rattle.refusal.proofs.Numbers.{number_ne0}
use Rattle.plans.proofs.Ways.{change_record, change_set, change_done}
use Rattle.plans.proofs.Plans.change.Goals as goal

pub returns-in_err-check : goal.returns-in_err-check
returns-in_err-check c =
    let a = c.args in
    let p = err_from_is_err_and c.from_residual.result c.from_residual.ensures.1 in
    rw (p.1, p.2) (change_record a.self a.count a.n a.share a.ceiling (number_of c.in_err-check.field-0.0) c.in_err-check.ensures (number_ne0 _))

pub returns-in_err-check-2 : goal.returns-in_err-check-2
returns-in_err-check-2 c =
    let a = c.args in
    let p = err_from_is_err_and c.from_residual-in_err-check-2.result c.from_residual-in_err-check-2.ensures.1 in
    rw (p.1, p.2)
    (change_set a.self a.count a.n a.share a.ceiling c.in_ok-check.ensures _ c.set_with-set.ensures (number_of c.in_err-check-2.field-0.0) c.in_err-check-2.ensures (number_ne0 _))

pub returns : goal.returns
returns c = change_done _ _ _ _ _ c.in_ok-check.ensures _ c.set_with-set.ensures _ c.in_ok-check-2.ensures refl
