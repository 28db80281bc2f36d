-- `clock::step` meets its contract. Assumes nothing.
use Rattle.clock.proofs.Later.{turns}
use Rattle.clock.proofs.step.Goals as goal

pub returns-then-t-lt600 : goal.returns-then-t-lt600
returns-then-t-lt600 c = search turns

pub returns : goal.returns
returns c = search turns
