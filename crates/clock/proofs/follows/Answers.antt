-- `clock::follows` meets its contract. Assumes nothing.
use mathlib.Core.Path.{sym}
use Rattle.std.proofs.lemmas.Result.{err_from_is_err_and}
use Rattle.refusal.proofs.Numbers.{number_ne0}
use Rattle.clock.proofs.Answers.{follows_first, follows_second, follows_time, follows_never}
use Rattle.clock.proofs.Fit.{within}
use Rattle.clock.proofs.follows.Goals as goal

pub returns-in_err-check : goal.returns-in_err-check
returns-in_err-check c =
    let p = err_from_is_err_and c.from_residual.result c.from_residual.ensures.1 in
    rw (p.1, p.2) (follows_first c.args.a c.args.b _ c.in_err-check.ensures (number_ne0 _))

pub returns-in_err-check-2 : goal.returns-in_err-check-2
returns-in_err-check-2 c =
    let p = err_from_is_err_and c.from_residual-in_err-check-2.result c.from_residual-in_err-check-2.ensures.1 in
    rw (p.1, p.2) (follows_second c.args.a c.args.b (sym c.in_ok-check.ensures) _ c.in_err-check-2.ensures (number_ne0 _))

pub total-requires : goal.total-requires
total-requires c = within _ (sym c.in_ok-check-2.ensures)

pub total-requires-2 : goal.total-requires-2
total-requires-2 c = within _ (sym c.in_ok-check.ensures)

pub utco_follows-requires : goal.utco_follows-requires
utco_follows-requires c = (within _ (sym c.in_ok-check.ensures), within _ (sym c.in_ok-check-2.ensures))

pub returns-then-total : goal.returns-then-total
returns-then-total c = follows_time _ _ (sym c.in_ok-check.ensures) (sym c.in_ok-check-2.ensures) _ _ c.total.ensures.0 c.total-2.ensures.0 c.if-total.true _ c.utco_follows.ensures

pub returns-else-total : goal.returns-else-total
returns-else-total c = follows_never _ _ (sym c.in_ok-check.ensures) (sym c.in_ok-check-2.ensures) _ _ c.total.ensures.0 c.total-2.ensures.0 c.if-total.false
