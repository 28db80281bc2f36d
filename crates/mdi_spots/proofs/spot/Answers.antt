-- `mdi_spots::spot` meets its contract. Assumes nothing.
use Rattle.mdi_spots.proofs.Ways.{no_row}
use borrow.Author.Rules.{rules}
use Rattle.mdi_spots.proofs.spot.Goals as goal

pub returns-then-row-ge11 : goal.returns-then-row-ge11
returns-then-row-ge11 c = no_row c.args.t _ (search rules) (search rules) c.if-row-ge11.true
