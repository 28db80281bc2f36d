-- `host::keshgurvat_sender_fresh` meets its contract. Assumes nothing. Rattle would prove the call alone by itself; this proof also goes through
-- where a field is set again to its own value, so that an edit that sets another is refused for that value.
use borrow.Author.Rules.{rules}
use Rattle.host.proofs.Fresh.{turn_again, index_again, waiting_again, start_again}
use Rattle.host.proofs.keshgurvat_sender_fresh.Goals as goal

pub returns : goal.returns
returns c = search (turn_again, index_again, waiting_again, start_again, rules)
