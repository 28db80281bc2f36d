-- `sdc::size_of` meets its contract. Assumes nothing.
use Rattle.std.proofs.Common.{rules}
use Rattle.sdc.proofs.Ways.{size_by}
use Rattle.sdc.proofs.size_of.Goals as goal

pub returns : goal.returns
returns c = size_by _ _ _ c.map_or.ensures (λ x q. search rules)
