-- `walk::take_in` meets its contract. Assumes nothing.
use Rattle.walk.proofs.Calls.{end_in, part_in, taken_in}
use Rattle.walk.proofs.take_in.Goals as goal

pub slice_bounds-judge-end : goal.slice_bounds-judge-end
slice_bounds-judge-end c = end_in c.args.w _ c.args.block.now _ _ _ _ c.gather-n.ensures.memory c.requires c.min-have.ensures c.wanted-need.ensures.0 c.gather-n.ensures.answer.0

pub slice_bounds-judge-end-2 : goal.slice_bounds-judge-end-2
slice_bounds-judge-end-2 c = part_in c.args.w _ c.args.block.now _ _ _ _ c.gather-n.ensures.memory c.requires c.min-have.ensures c.wanted-need.ensures.0 c.gather-n.ensures.answer.0

pub returns : goal.returns
returns c = let both = taken_in c.args.w _ c.args.block.now _ _ _ _ c.gather-n.ensures.memory c.requires c.min-have.ensures c.wanted-need.ensures.0 c.gather-n.ensures.answer.0 _ c.judge.ensures in record { answer = both.0; held = both.1 }
