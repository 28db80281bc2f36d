-- `cutting::gather` meets its contract. Assumes nothing.
use mathlib.Core.Path.{sym}
use lib.Seq.{length-take-le}
use Rattle.cutting.proofs.gather.Goals as goal

pub slice_bounds-copy-end : goal.slice_bounds-copy-end
slice_bounds-copy-end c = sym (length-take-le _ _ c.count-n.ensures.1)

pub returns : goal.returns
returns c = record { answer = c.count-n.ensures; memory = c.copy.ensures }
