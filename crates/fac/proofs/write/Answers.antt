-- `fac::write` meets its contract. Assumes nothing.
use Rattle.std.proofs.lemmas.Result.{err_from_is_err_and}
use Rattle.refusal.specs.Refusal.{number_of}
use Rattle.refusal.proofs.Numbers.{number_ne0}
use Rattle.fac.proofs.Ways.{ready, write_refused, write_done}
use Rattle.fac.proofs.write.Goals as goal

pub returns-in_err-check_fac : goal.returns-in_err-check_fac
returns-in_err-check_fac c =
    let p = err_from_is_err_and c.from_residual.result c.from_residual.ensures.1 in
    rw (p.1, p.2) (let both = write_refused c.args.f c.args.out.now (number_of c.in_err-check_fac.field-0.0) c.in_err-check_fac.ensures (number_ne0 _) in record { answer = both.0; memory = both.1 })

pub put-requires : goal.put-requires
put-requires c = ready _ _ c.in_ok-check_fac.ensures

pub returns : goal.returns
returns c = let both = write_done _ _ c.in_ok-check_fac.ensures _ c.put.ensures in record { answer = both.0; memory = both.1 }
