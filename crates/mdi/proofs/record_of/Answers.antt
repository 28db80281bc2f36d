-- `mdi::record_of` meets its contract. Assumes nothing.
use Rattle.mdi.proofs.Ways.{record_is, time_spot, first_or0}
use Rattle.mdi.proofs.record_of.Goals as goal

pub time_of-time-requires : goal.time_of-time-requires
time_of-time-requires c = time_spot c.args.s.now _ c.requires _ c.spot-6.ensures

pub returns : goal.returns
returns c =
    record_is c.args.s.now _ c.requires _ _ _ _ _
    c.spot.ensures c.spot-2.ensures c.spot-3.ensures c.spot-4.ensures c.spot-5.ensures
    _ _ _ _ _
    c.value.ensures c.value-2.ensures c.value-3.ensures c.value-4.ensures c.value-5.ensures
    _ _ _ _ _ _
    c.read32-count.ensures c.of_value-fac.ensures c.of_value-sdc.ensures c.of_value-description.ensures (first_or0 _ _ _ _ c.first.ensures.value c.copied.ensures c.unwrap_or-robustness.ensures) c.time_of-time.ensures
