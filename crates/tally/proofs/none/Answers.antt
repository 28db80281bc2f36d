-- `tally::none` meets its contract. Assumes nothing.
use Rattle.tally.proofs.Ways.{ways}
use Rattle.std.proofs.Common.{rules}
use Rattle.tally.proofs.none.Goals as goal

pub returns : goal.returns
returns c = search (ways, rules)
