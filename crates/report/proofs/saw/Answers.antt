-- `report::saw` meets its contract. Assumes nothing.
use Rattle.std.proofs.Common.{refl}
use Rattle.report.proofs.Ways.{line_dated}
use Rattle.report.proofs.saw.Goals as goal

pub returns-clause-text : goal.returns-clause-text
returns-clause-text c = rw (← c.read.ensures, ← c.from-a.ensures) (line_dated _ _ _ _ _ _ _ refl c.line-n.ensures)
