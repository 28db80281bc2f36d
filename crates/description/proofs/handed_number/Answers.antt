-- `description::handed_number` meets its contract. Assumes nothing.
use Rattle.description.proofs.Ways.{handing}
use Rattle.description.proofs.handed_number.Goals as goal

pub returns-then-large-too_large : goal.returns-then-large-too_large
returns-then-large-too_large c = search handing

pub returns-then-is_unserved : goal.returns-then-is_unserved
returns-then-is_unserved c = search handing

pub returns-then-ill_formed : goal.returns-then-ill_formed
returns-then-ill_formed c = search handing

pub returns : goal.returns
returns c = search handing
