-- `row::is_fit` meets its contract. Assumes nothing.
use borrow.Author.Rules.{rules}
use Rattle.row.proofs.Steps.{unfit_p, unfit_id, unfit_index, unfit_queue, unfit_room, fit_rest}
use Rattle.row.proofs.is_fit.Goals as goal
use Rattle.row.proofs.is_fit.Goals.{then-p-eq0-via-then-p-eq0, then-p-eq0-via-else-p-eq0+then-id-gt3, then-p-eq0-via-else-p-eq0+else-id-gt3+then-index-gt7, then-p-eq0-via-else-p-eq0+else-id-gt3+else-index-gt7+then-is_broken, then-p-eq0-via-else-p-eq0+else-id-gt3+else-index-gt7+else-is_broken+then-room-unsent}

pub returns-then-p-eq0 : goal.returns-then-p-eq0
returns-then-p-eq0 c =
    elim c.then-p-eq0.branch [
      | then-p-eq0-via-then-p-eq0 w ↦ search unfit_p
      | then-p-eq0-via-else-p-eq0+then-id-gt3 w ↦ search unfit_id
      | then-p-eq0-via-else-p-eq0+else-id-gt3+then-index-gt7 w ↦ search unfit_index
      | then-p-eq0-via-else-p-eq0+else-id-gt3+else-index-gt7+then-is_broken w ↦ search unfit_queue
      | then-p-eq0-via-else-p-eq0+else-id-gt3+else-index-gt7+else-is_broken+then-room-unsent w ↦ search unfit_room
    ]

pub returns : goal.returns
returns c = rw c.from.ensures (search (fit_rest, rules))
