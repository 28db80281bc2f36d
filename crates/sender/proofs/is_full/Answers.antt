-- `sender::is_full` meets its contract. Assumes nothing.
use Rattle.sender.proofs.Entering.{room_eight, room_rest}
use Rattle.sender.proofs.is_full.Goals as goal

pub returns-then-q-ge8 : goal.returns-then-q-ge8
returns-then-q-ge8 c = search room_eight

pub returns : goal.returns
returns c = search room_rest
