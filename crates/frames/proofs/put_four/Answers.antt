-- `frames::put_four` meets its contract. Assumes nothing.
use Rattle.frames.proofs.Putting.{four_put}
use Rattle.frames.proofs.put_four.Goals as goal

pub returns : goal.returns
returns c = four_put _ _ _ _ _ _ _ _ _ _ _ _ _ _ c.requires (c.put-at1.ensures.answer, c.put-at1.ensures.memory) (c.put-at2.ensures.answer, c.put-at2.ensures.memory) (c.put-at3.ensures.answer, c.put-at3.ensures.memory) (c.put.ensures.answer, c.put.ensures.memory)
