-- `crc::step` meets its contract. Assumes nothing.
use native.Mathlib.Omega.{arith}
use Rattle.crc.proofs.Turns.{turned_none, turned_one, turned_all}
use Rattle.crc.proofs.step.Goals as goal

pub loop-k-init : goal.loop-k-init
loop-k-init g c = turned_none g.met.W.Word.sound c.plus-c.ensures.fits (omega arith) c.plus-c.ensures.sum

pub loop-k-preserved : goal.loop-k-preserved
loop-k-preserved g c = turned_one _ g.met.W.Word.sound (omega arith) c.turn-c.ensures c.loop-k.invariant

pub returns : goal.returns
returns g c = turned_all (omega arith) c.loop-k.invariant
