-- What the loop of `step` keeps. Assumes nothing.
use Rattle.crc.proofs.Turns.{Turned}
use Rattle.crc.proofs.step.Given as goal

abbrev pub invariant-loop-k : goal.invariant-loop-k
invariant-loop-k g l = Turned g.W.Word.width g.W.Word.poly (g.W.Word.value l.fn.crc) l.fn.b (g.W.Word.value l.c) l.k
