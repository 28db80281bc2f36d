-- `queue::Queue::pop` meets its contract. Assumes nothing.
use Rattle.queue.proofs.Taken.{pop_far, pop_none, pop_unit, pop_part}
use Rattle.queue.proofs.Queue.pop.Goals as goal
use Rattle.queue.proofs.Queue.pop.Goals.{then-self-gt4096-via-then-self-gt4096, then-self-gt4096-via-else-self-gt4096+then-self-eq0}

pub returns-then-self-gt4096 : goal.returns-then-self-gt4096
returns-then-self-gt4096 c =
    elim c.then-self-gt4096.branch [
      | then-self-gt4096-via-then-self-gt4096 w ↦ search pop_far
      | then-self-gt4096-via-else-self-gt4096+then-self-eq0 w ↦ search pop_none
    ]

pub returns-then-x-p : goal.returns-then-x-p
returns-then-x-p c = search pop_unit

pub returns : goal.returns
returns c = search pop_part
