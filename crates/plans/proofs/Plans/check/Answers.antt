-- `plans::Plans::check` meets its contract. Assumes nothing.
use mathlib.Core.Path.{refl}
use Rattle.std.proofs.lemmas.Result.{err_from_is_err_and}
use Rattle.refusal.specs.Refusal.{number_of}
use Rattle.refusal.proofs.Numbers.{number_ne0}
use Rattle.plans.proofs.Ways.{first_bad, none_waits, second_bad, both_fit}
use Rattle.plans.proofs.Plans.check.Goals as goal

pub returns-in_err-check : goal.returns-in_err-check
returns-in_err-check c =
    let p = err_from_is_err_and c.from_residual.result c.from_residual.ensures.1 in
    rw (p.1, p.2) (first_bad _ (number_of c.in_err-check.field-0.0) c.in_err-check.ensures (number_ne0 _))

pub returns-in_err-check-2 : goal.returns-in_err-check-2
returns-in_err-check-2 c =
    let p = err_from_is_err_and c.from_residual-in_err-check-2.result c.from_residual-in_err-check-2.ensures.1 in
    rw (p.1, p.2) (second_bad _ c.in_ok-check.ensures c.if-self.true _ c.second_set-second.ensures (number_of c.in_err-check-2.field-0.0) c.in_err-check-2.ensures (number_ne0 _))

pub returns-in_ok-check-2 : goal.returns-in_ok-check-2
returns-in_ok-check-2 c = both_fit _ c.in_ok-check.ensures c.if-self.true _ c.second_set-second.ensures _ c.in_ok-check-2.ensures refl

pub returns-else-self : goal.returns-else-self
returns-else-self c = none_waits _ c.in_ok-check.ensures c.if-self.false
