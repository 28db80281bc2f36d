-- `walk::begin` meets its contract. Assumes nothing.
use Rattle.walk.proofs.Calls.{begin_done}
use Rattle.walk.proofs.begin.Goals as goal

pub returns-in-Ok : goal.returns-in-Ok
returns-in-Ok c = begin_done _ _ c.in-Ok.ensures

pub returns-in-Err : goal.returns-in-Err
returns-in-Err c = rw c.number.ensures (begin_done _ _ c.in-Err.ensures)
