-- `answer_description::lengths_at` meets its contract. Assumes nothing.
use Rattle.answer_description.proofs.Read.{lengths_are}
use Rattle.answer_description.proofs.lengths_at.Goals as goal

pub returns : goal.returns
returns c = search lengths_are
