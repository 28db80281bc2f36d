-- `meter::record_of` meets its contract. Assumes nothing.
use Rattle.clock.proofs.Told.{stamp_of}
use Rattle.meter.proofs.Ways.{made_is}
use Rattle.meter.proofs.record_of.Goals as goal

pub returns : goal.returns
returns c =
    made_is _ _ _ _ _ _ _ _ _ _ _ c.of_value-fac.ensures c.of_value-sdc.ensures c.of_value-description.ensures c.decode.ensures
    (stamp_of c.decode.result _ c.unwrap_or_default.ensures)
