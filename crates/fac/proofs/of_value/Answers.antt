-- `fac::of_value` meets its contract. Assumes nothing.
use Rattle.fac.specs.Channel.{fac_of}
use Rattle.fac.proofs.of_value.Goals as goal

pub returns : goal.returns
unfolding fac_of
returns c = cc
