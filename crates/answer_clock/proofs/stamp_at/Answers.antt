-- `answer_clock::stamp_at` meets its contract. Assumes nothing.
use Rattle.answer_clock.proofs.Read.{stamp_is}
use Rattle.answer_clock.proofs.stamp_at.Goals as goal

pub returns : goal.returns
returns c = search stamp_is
