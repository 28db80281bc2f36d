-- `mdi_spots::missing` meets its contract. Assumes nothing.
use Rattle.mdi_spots.proofs.Ways.{missing_at}
use Rattle.mdi_spots.proofs.missing.Goals as goal

pub returns : goal.returns
returns c =
    missing_at _ _ _ _ _ _ _ _ _ _ _
    c.spot.ensures c.spot-2.ensures c.spot-3.ensures c.spot-4.ensures c.spot-5.ensures
    c.is_away.ensures c.is_away-2.ensures c.is_away-3.ensures c.is_away-4.ensures c.is_away-5.ensures
