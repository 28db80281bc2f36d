-- `queue::packets_of` meets its contract. Assumes nothing.
use borrow.Author.Rules.{rules}
use Rattle.queue.proofs.Sums.{packets_none, packets_is, packets_fit}
use Rattle.queue.proofs.packets_of.Goals as goal

pub returns-then-p-eq0 : goal.returns-then-p-eq0
returns-then-p-eq0 c = search (packets_none, rules)

pub returns-else-p-eq0 : goal.returns-else-p-eq0
returns-else-p-eq0 c = search (packets_is, packets_fit, rules)
