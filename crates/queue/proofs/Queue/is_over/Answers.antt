-- `queue::Queue::is_over` meets its contract. Assumes nothing.
use borrow.Author.Rules.{rules}
use Rattle.queue.proofs.Faults.{broken_unsent, broken_far, broken_rest, broken_none, broken_is, rest_is}
use Rattle.queue.proofs.Queue.is_over.Goals as goal
use Rattle.queue.proofs.Queue.is_over.Goals.{then-bytes-gt4096-via-then-bytes-gt4096, then-bytes-gt4096-via-else-bytes-gt4096+then-sent-gt4096, then-bytes-gt4096-via-else-bytes-gt4096+else-sent-gt4096+then-unwrap_or-ne0}

pub returns-then-bytes-gt4096 : goal.returns-then-bytes-gt4096
returns-then-bytes-gt4096 c =
    elim c.then-bytes-gt4096.branch [
      | then-bytes-gt4096-via-then-bytes-gt4096 w ↦ search (broken_unsent, rules)
      | then-bytes-gt4096-via-else-bytes-gt4096+then-sent-gt4096 w ↦ search (broken_far, rules)
      | then-bytes-gt4096-via-else-bytes-gt4096+else-sent-gt4096+then-unwrap_or-ne0 w ↦
          broken_rest _ _ _ (rest_is _ _ _ _ _ w.from.ensures w.checked_rem.ensures w.unwrap_or.ensures) w.if-unwrap_or-ne0.true
    ]

pub returns-then-self-eq0 : goal.returns-then-self-eq0
returns-then-self-eq0 c =
    let r = rest_is _ _ _ _ _ c.from.ensures c.checked_rem.ensures c.unwrap_or.ensures in search (broken_none, rules)

pub returns : goal.returns
returns c = let r = rest_is _ _ _ _ _ c.from.ensures c.checked_rem.ensures c.unwrap_or.ensures in search (broken_is, rules)
