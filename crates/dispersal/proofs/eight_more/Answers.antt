-- `dispersal::eight_more` meets its contract. Assumes nothing.
use mathlib.Core.Path.{refl}
use Rattle.dispersal.proofs.Register.{stepped}
use Rattle.dispersal.proofs.eight_more.Goals as goal

pub returns : goal.returns
returns c = let both = stepped c.args.bits c.requires _ refl in record { register = both.0; above = both.1 }
