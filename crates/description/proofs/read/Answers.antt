-- `description::read` meets its contract. Assumes nothing.
use Rattle.description.proofs.Ways.{read_told}
use Rattle.description.proofs.read.Goals as goal

pub returns : goal.returns
returns c = read_told _ _ _ c.read_value.ensures.number c.read_value.ensures.value
