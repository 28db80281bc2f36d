-- `queue::Queue::pushed` meets its contract. Assumes nothing.
use Rattle.queue.proofs.Sums.{push_full, push_room}
use Rattle.queue.proofs.Queue.pushed.Goals as goal

pub returns-then-self-ge8 : goal.returns-then-self-ge8
returns-then-self-ge8 c = search push_full

pub returns : goal.returns
returns c = search push_room
