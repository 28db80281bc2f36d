-- `fac::is_sealed` meets its contract. Assumes nothing.
use Rattle.fac.proofs.Ways.{seal_short, seal_is}
use Rattle.fac.proofs.is_sealed.Goals as goal

pub returns-then-value-lt9 : goal.returns-then-value-lt9
returns-then-value-lt9 c = seal_short _ c.if-value-lt9.true

pub returns : goal.returns
returns c = search seal_is
