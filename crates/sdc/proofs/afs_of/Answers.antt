-- `sdc::afs_of` meets its contract. Assumes nothing.
use Rattle.std.proofs.Common.{rules}
use Rattle.sdc.proofs.Ways.{afs_by}
use Rattle.sdc.proofs.afs_of.Goals as goal

pub returns : goal.returns
returns c = afs_by _ _ _ c.map_or.ensures (λ x q. search rules)
