-- `queue::Queue::drop_first` meets its contract. Assumes nothing.
use borrow.Author.Rules.{rules}
use Rattle.queue.proofs.Taken.{first_is}
use Rattle.queue.proofs.Queue.drop_first.Goals as goal

pub returns : goal.returns
returns c = search (first_is, rules)
