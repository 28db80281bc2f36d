-- `sdc::is_sealed` meets its contract. Assumes nothing.
use Rattle.sdc.proofs.Ways.{seal_none, seal_short, seal_is}
use Rattle.sdc.proofs.is_sealed.Goals as goal

pub returns-then-n-eq0 : goal.returns-then-n-eq0
returns-then-n-eq0 c = seal_none _ c.if-n-eq0.true

pub returns-then-n-lt3 : goal.returns-then-n-lt3
returns-then-n-lt3 c = seal_short _ c.if-n-eq0.false c.if-n-lt3.true

pub returns : goal.returns
returns c = search seal_is
