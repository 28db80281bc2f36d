-- `fac::split` meets its contract. Assumes nothing.
use Rattle.fac.specs.Channel.{fac_from}
use native.Mathlib.Nat.{div-one}
use Rattle.fac.proofs.split.Goals as goal

pub returns : goal.returns
unfolding fac_from
returns c = rw div-one
