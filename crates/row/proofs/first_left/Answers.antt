-- `row::first_left` meets its contract. Assumes nothing.
use Rattle.row.proofs.Steps.{none_left, some_left}
use Rattle.row.proofs.first_left.Goals as goal

pub returns-then-q-eq0 : goal.returns-then-q-eq0
returns-then-q-eq0 c = search none_left

pub returns : goal.returns
returns c = search some_left
