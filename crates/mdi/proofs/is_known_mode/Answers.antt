-- `mdi::is_known_mode` meets its contract. Assumes nothing.
use mathlib.Core.Path.{ap}
use lib.Dec.{leb}
use Rattle.mdi.specs.Conditions.{known_mode}
use Rattle.mdi.proofs.Ways.{first_or0}
use Rattle.mdi.proofs.is_known_mode.Goals as goal

pub returns : goal.returns
unfolding known_mode
returns c = ap (λ n. leb n 3) (first_or0 _ _ _ _ c.first.ensures.value c.copied.ensures c.unwrap_or.ensures)
