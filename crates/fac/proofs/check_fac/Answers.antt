-- `fac::check_fac` meets its contract. Assumes nothing.
use Rattle.fac.proofs.Ways.{writing}
use Rattle.fac.proofs.check_fac.Goals as goal

pub returns-then-too_large : goal.returns-then-too_large
returns-then-too_large c = search writing

pub returns-then-not_served : goal.returns-then-not_served
returns-then-not_served c = search writing

pub returns-then-room-lt9 : goal.returns-then-room-lt9
returns-then-room-lt9 c = search writing

pub returns : goal.returns
returns c = search writing
