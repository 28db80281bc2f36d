-- `packet::is_padded` meets its contract. Assumes nothing.
use mathlib.Core.Path.{refl}
use Rattle.packet.specs.Packet.{padded}
use Rattle.packet.proofs.is_padded.Goals as goal

pub returns : goal.returns
unfolding padded
returns c = refl
