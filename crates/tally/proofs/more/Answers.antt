-- `tally::more` meets its contract. Assumes nothing.
use Rattle.tally.proofs.Ways.{ways}
use Rattle.std.proofs.Common.{rules}
use Rattle.tally.proofs.more.Goals as goal

pub returns-then-one : goal.returns-then-one
returns-then-one c = search (ways, rules)

pub returns : goal.returns
returns c = search (ways, rules)
