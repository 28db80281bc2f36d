-- `meter::byte_at` meets its contract. Assumes nothing.
use Rattle.meter.proofs.Ways.{get_or_out}
use borrow.Author.Rules.{rules}
use Rattle.meter.proofs.byte_at.Goals as goal

pub returns-then-s-at : goal.returns-then-s-at
returns-then-s-at c = search (get_or_out, rules)
