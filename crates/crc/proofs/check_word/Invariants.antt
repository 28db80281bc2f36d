-- What the loop of `check_word` keeps: the bytes left make of the register what all make of all ones. Assumes nothing.
use Rattle.crc.proofs.Bytes.{Fed}
use Rattle.crc.proofs.check_word.Given as goal

abbrev pub invariant-loop-b : goal.invariant-loop-b
invariant-loop-b g l = Fed g.W.Word.width g.W.Word.poly l.s (g.W.Word.value l.crc) l.b-index
