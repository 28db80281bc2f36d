-- `description::of_value` meets its contract. Assumes nothing.
use Rattle.description.proofs.Pieces.{described}
use Rattle.description.proofs.of_value.Goals as goal

pub returns : goal.returns
returns c = search described
