-- `mdi::is_on_time` meets its contract. Assumes nothing.
use mathlib.Core.Path.{◌∙◌}
use Rattle.mdi.proofs.Values.{time_is}
use Rattle.mdi.proofs.is_on_time.Goals as goal

pub returns : goal.returns
returns c = c.ne.ensures ∙ time_is c.args.v.now c.decode.result c.decode.ensures
