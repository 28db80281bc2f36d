-- `mdi_write::is_agreed` meets its contract. Assumes nothing.
use Rattle.description.proofs.Tests.{sized}
use Rattle.mdi_write.proofs.Values.{four_said}
use Rattle.mdi_write.proofs.is_agreed.Goals as goal

pub returns : goal.returns
returns c = (four_said _ _ _ _ _ _ _ _ _ _ _ _ c.size.ensures.0 c.size-2.ensures.0 c.size-3.ensures.0 c.size-4.ensures.0, search sized)
