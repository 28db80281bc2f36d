-- `description::wrong_head` meets its contract. Assumes nothing.
use Rattle.description.proofs.Ways.{head_is}
use Rattle.description.proofs.wrong_head.Goals as goal

pub returns : goal.returns
returns c = search head_is
