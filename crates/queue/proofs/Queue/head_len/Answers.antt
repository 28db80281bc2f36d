-- `queue::Queue::head_len` meets its contract. Assumes nothing.
use Rattle.queue.proofs.Taken.{len_none, len_some, len_ok}
use Rattle.queue.proofs.Queue.head_len.Goals as goal

pub returns-then-self-eq0 : goal.returns-then-self-eq0
returns-then-self-eq0 c = len_ok _ _ _ (search len_none)

pub returns : goal.returns
returns c = len_ok _ _ _ (search len_some)
