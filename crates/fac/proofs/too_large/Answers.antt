-- `fac::too_large` meets its contract. Assumes nothing.
use Rattle.fac.specs.Channel.{is_too_large}
use Rattle.laws.proofs.Flags.{or_none}
use Rattle.fac.proofs.too_large.Goals as goal

pub returns : goal.returns
unfolding is_too_large
returns c = simp or_none
