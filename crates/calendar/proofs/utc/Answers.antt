-- `calendar::utc` meets its contract. Assumes nothing.
use Rattle.calendar.proofs.Parts.{months_fit, put_together}
use Rattle.calendar.proofs.utc.Goals as goal

pub months-m-requires : goal.months-m-requires
months-m-requires c =
    let y = c.years-y in
    months_fit _ _ _ c.is_leap.ensures y.ensures.1

pub returns : goal.returns
returns c = put_together _ _ _ _ _ _ c.is_leap.ensures c.years-y.ensures.0 c.months-m.ensures.0 c.months-m.ensures.1 c.months-m.ensures.2
