-- `sdc::too_large` meets its contract. Assumes nothing.
use Rattle.sdc.proofs.Ways.{large_afs, large_rest}
use Rattle.sdc.proofs.too_large.Goals as goal

pub returns-then-afs_of-gt-TOP : goal.returns-then-afs_of-gt-TOP
returns-then-afs_of-gt-TOP c = large_afs c.args.s _ c.afs_of.ensures c.if-afs_of-gt-TOP.true

pub returns-else-afs_of-gt-TOP : goal.returns-else-afs_of-gt-TOP
returns-else-afs_of-gt-TOP c = large_rest c.args.s _ c.afs_of.ensures c.if-afs_of-gt-TOP.false _ _ c.size_of.ensures c.is_blank.ensures
