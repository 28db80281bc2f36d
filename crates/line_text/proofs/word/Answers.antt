-- `line_text::word` meets its contract. Assumes nothing.
use Rattle.line_text.proofs.Room.{copied}
use Rattle.line_text.proofs.word.Goals as goal

pub returns : goal.returns
returns c = let e = c.put.ensures in copied _ _ _ _ _ e.answer e.memory
