-- `description::too_large` meets its contract. Assumes nothing.
use mathlib.Core.Path.{refl}
use Rattle.description.specs.WellFormed.{is_too_large}
use Rattle.description.proofs.too_large.Goals as goal

pub returns : goal.returns
unfolding is_too_large
returns c = rw c.has_over.ensures refl
