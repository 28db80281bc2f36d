-- `sender::next_state` meets its contract. Assumes nothing.
use mathlib.Core.Path.{refl}
use Rattle.sender.specs.Frame.{next_from}
use Rattle.sender.proofs.next_state.Goals as goal

pub returns : goal.returns
unfolding next_from
returns c = refl
