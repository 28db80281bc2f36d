-- `fac::read` meets its contract. Assumes nothing.
use Rattle.std.proofs.lemmas.Result.{err_from_is_err_and}
use Rattle.refusal.specs.Refusal.{number_of}
use Rattle.refusal.proofs.Numbers.{number_ne0}
use Rattle.fac.proofs.Ways.{read_refused, read_done}
use Rattle.fac.proofs.read.Goals as goal

pub returns-in_err-check_value : goal.returns-in_err-check_value
returns-in_err-check_value c =
    let p = err_from_is_err_and c.from_residual.result c.from_residual.ensures.1 in
    rw (p.1, p.2) (read_refused c.args.value.now (number_of c.in_err-check_value.field-0.0) c.in_err-check_value.ensures (number_ne0 _))

pub returns : goal.returns
returns c = read_done _ c.in_ok-check_value.ensures _ c.of_value.ensures
