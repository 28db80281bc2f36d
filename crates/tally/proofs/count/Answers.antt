-- `tally::count` meets its contract. Assumes nothing.
use Rattle.tally.proofs.Ways.{ways}
use Rattle.std.proofs.Common.{rules}
use Rattle.tally.proofs.count.Goals as goal

pub returns : goal.returns
returns c = search (ways, rules)
