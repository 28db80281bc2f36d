-- `record::follows` meets its contract. Assumes nothing.
use Rattle.std.proofs.Common.{sym}
use Rattle.std.proofs.lemmas.Result.{err_from_is_err_and}
use Rattle.refusal.proofs.Numbers.{number_ne0}
use Rattle.record.proofs.Ways.{follows_first, follows_second, follows_next, follows_never}
use Rattle.record.proofs.follows.Goals as goal

pub returns-in_err-check_time : goal.returns-in_err-check_time
returns-in_err-check_time c =
    let p = err_from_is_err_and c.from_residual.result c.from_residual.ensures.1 in
    rw (p.1, p.2) (follows_first c.args.a c.args.b _ c.in_err-check_time.ensures (number_ne0 _))

pub returns-in_err-check_time-2 : goal.returns-in_err-check_time-2
returns-in_err-check_time-2 c =
    let p = err_from_is_err_and c.from_residual-in_err-check_time-2.result c.from_residual-in_err-check_time-2.ensures.1 in
    rw (p.1, p.2) (follows_second c.args.a c.args.b (sym c.in_ok-check_time.ensures) _ c.in_err-check_time-2.ensures (number_ne0 _))

pub returns-then-b-a : goal.returns-then-b-a
returns-then-b-a c = follows_next _ _ (sym c.in_ok-check_time.ensures) (sym c.in_ok-check_time-2.ensures) c.if-b-a.true _ c.times_follow.ensures

pub returns-else-b-a : goal.returns-else-b-a
returns-else-b-a c = follows_never _ _ (sym c.in_ok-check_time.ensures) (sym c.in_ok-check_time-2.ensures) c.if-b-a.false
