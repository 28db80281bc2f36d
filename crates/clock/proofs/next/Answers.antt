-- `clock::next` meets its contract. Assumes nothing.
use mathlib.Core.Path.{sym}
use Rattle.std.proofs.lemmas.Result.{err_from_is_err_and}
use Rattle.refusal.proofs.Numbers.{number_ne0}
use Rattle.clock.proofs.Answers.{next_fields, next_none, next_done}
use Rattle.clock.proofs.Fit.{within}
use Rattle.clock.proofs.next.Goals as goal

pub returns-in_err-check : goal.returns-in_err-check
returns-in_err-check c =
    let p = err_from_is_err_and c.from_residual.result c.from_residual.ensures.1 in
    rw (p.1, p.2) (next_fields c.args.t _ c.in_err-check.ensures (number_ne0 _))

pub step-stamp-requires : goal.step-stamp-requires
step-stamp-requires c = within _ (sym c.in_ok-check.ensures)

pub returns-then-stamp-ge1099511627776 : goal.returns-then-stamp-ge1099511627776
returns-then-stamp-ge1099511627776 c = next_none _ (sym c.in_ok-check.ensures) _ c.step-stamp.ensures c.if-stamp-ge1099511627776.true

pub returns : goal.returns
returns c = next_done _ (sym c.in_ok-check.ensures) _ c.step-stamp.ensures c.if-stamp-ge1099511627776.false
