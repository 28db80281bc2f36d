-- `meter::meter_mdi_read` meets its contract. Assumes nothing.
use Rattle.meter.proofs.Ways.{seen_read, seen_refused}
use Rattle.meter.proofs.meter_mdi_read.Goals as goal

pub returns-in-Ok : goal.returns-in-Ok
returns-in-Ok c = seen_read _ _ _ c.in-Ok.ensures _ c.byte_at.ensures

pub returns-in-Err : goal.returns-in-Err
returns-in-Err c = seen_refused _ _ _ c.in-Err.ensures _ c.number.ensures
