-- `mdi::read` meets its contract. Assumes nothing.
use Rattle.std.proofs.lemmas.Result.{err_from_is_err_and}
use Rattle.mdi.proofs.Ways.{read_no, spots_are, read_yes}
use Rattle.mdi.proofs.read.Goals as goal

pub returns-in_err-spots : goal.returns-in_err-spots
returns-in_err-spots c =
    let p = err_from_is_err_and c.from_residual.result c.from_residual.ensures.1 in
    rw (p.1, p.2) (read_no c.args.packet.now c.in_err-spots.field-0.0 c.in_err-spots.ensures)

pub record_of-requires : goal.record_of-requires
record_of-requires c = spots_are _ _ c.in_ok-spots.ensures

pub returns : goal.returns
returns c = read_yes _ _ c.in_ok-spots.ensures _ c.record_of.ensures
