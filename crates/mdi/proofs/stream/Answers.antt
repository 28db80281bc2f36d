-- `mdi::stream` meets its contract. Assumes nothing.
use Rattle.mdi.proofs.Ways.{stream_no, stream_over, stream_row}
use Rattle.mdi.proofs.stream.Goals as goal

pub returns-in_default : goal.returns-in_default
returns-in_default c = stream_no _ _ c.in_default.ensures _

pub returns-then-n-gt3 : goal.returns-then-n-gt3
returns-then-n-gt3 c = stream_over _ _ c.in-Ok.ensures _ c.if-n-gt3.true

pub returns : goal.returns
returns c = stream_row _ _ c.in-Ok.ensures _ c.if-n-gt3.false _ c.spot.ensures _ c.value.ensures
