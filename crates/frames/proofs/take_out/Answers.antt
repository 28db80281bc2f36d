-- `frames::take_out` meets its contract. Assumes nothing.
use Rattle.frames.proofs.Cutting.{taken_out}
use Rattle.frames.proofs.take_out.Goals as goal

pub returns : goal.returns
returns c =
    let a = c.args in
    taken_out a.frame.now a.out.now _ _ a.x a.y _ c.requires.0 c.requires.1 c.requires.2 (c.put-at.ensures.answer, c.put-at.ensures.memory) c.put-at.auto.dst _ (c.put.ensures.answer, c.put.ensures.memory)
