-- `crc::check_word` meets its contract. Assumes nothing.
use mathlib.Core.Path.{◌∙◌}
use native.Mathlib.Omega.{arith}
use Rattle.crc.proofs.Bytes.{fed_none, fed_one, fed_all}
use Rattle.crc.proofs.check_word.Goals as goal

pub loop-b-init : goal.loop-b-init
loop-b-init g c = rw c.ones-crc.ensures (fed_none _ _ c.args.s.now)

pub loop-b-preserved : goal.loop-b-preserved
loop-b-preserved g c = fed_one (omega arith) c.step-crc.ensures c.loop-b.invariant

pub returns : goal.returns
returns g c = c.inverted.ensures ∙ fed_all (omega arith) c.loop-b.invariant
