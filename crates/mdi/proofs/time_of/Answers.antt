-- `mdi::time_of` meets its contract. Assumes nothing.
use Rattle.clock.proofs.Told.{stamp_of}
use Rattle.mdi.proofs.Ways.{time_none, time_some}
use Rattle.mdi.proofs.time_of.Goals as goal

pub returns-then-x-eq0 : goal.returns-then-x-eq0
returns-then-x-eq0 c = search time_none

pub returns : goal.returns
returns c = time_some _ _ c.requires c.if-x-eq0.false _ c.value.ensures _ c.decode.ensures _ (stamp_of c.decode.result _ c.unwrap_or_default.ensures)
