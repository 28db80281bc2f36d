-- `mdi_write::time_size` meets its contract. Assumes nothing.
use mathlib.Core.Path.{sym, ◌∙◌}
use Rattle.mdi_write.proofs.Values.{time_size_none, time_size_some}
use Rattle.mdi_write.proofs.time_size.Goals as goal

pub returns-then-is_some : goal.returns-then-is_some
returns-then-is_some c = time_size_some _ (sym c.is_some.ensures ∙ c.if-is_some.true)

pub returns-else-is_some : goal.returns-else-is_some
returns-else-is_some c = time_size_none _ (sym c.is_some.ensures ∙ c.if-is_some.false)
