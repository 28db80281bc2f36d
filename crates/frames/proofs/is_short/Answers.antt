-- `frames::is_short` meets its contract. Assumes nothing.
use mathlib.Core.Path.{◌∙◌}
use Rattle.description.proofs.Tests.{sized}
use Rattle.frames.specs.Frames.{sizes}
use Rattle.frames.proofs.Ways.{less_are}
use Rattle.frames.proofs.is_short.Goals as goal

pub returns : goal.returns
returns c = (c.is_any_less.ensures ∙ rw c.sizes-sizes.ensures (less_are (sizes c.args.d) c.args.rooms), search sized)
