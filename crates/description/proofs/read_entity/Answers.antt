-- `description::read_entity` meets its contract. Assumes nothing.
use Rattle.std.proofs.lemmas.Result.{err_from_is_err_and}
use Rattle.description.proofs.Ways.{entity_refused, entity_done}
use Rattle.description.proofs.read_entity.Goals as goal

pub returns-in_err-description : goal.returns-in_err-description
returns-in_err-description c =
    let p = err_from_is_err_and c.from_residual.result c.from_residual.ensures.1 in
    rw (p.1, p.2) (entity_refused _ _ _ _ c.wrong_head.ensures c.rest.ensures _ c.in_err-description.ensures.number)

pub returns : goal.returns
returns c = entity_done _ _ _ _ c.wrong_head.ensures c.rest.ensures c.in_ok-description.ensures.number _ _ c.version_in.ensures c.in_ok-description.ensures.value
