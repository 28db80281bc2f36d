-- `answer_description::description_at` meets its contract. Assumes nothing.
use Rattle.answer_description.proofs.Read.{description_is}
use Rattle.answer_description.proofs.description_at.Goals as goal

pub returns : goal.returns
returns c = search description_is
