-- `turn` of the 8-bit register meets its contract. Assumes nothing.
use native.Mathlib.Omega.{arith}
use Rattle.crc.specs.Register.{register8}
use Rattle.crc.proofs.Turns.{turn_set, turn_clear}
use Rattle.crc.proofs.U8Word.turn.Goals as goal

pub returns-then-self-ge128 : goal.returns-then-self-ge128
returns-then-self-ge128 c = turn_set c.args.self register8 (omega arith) c.if-self-ge128.true

pub returns-else-self-ge128 : goal.returns-else-self-ge128
returns-else-self-ge128 c = turn_clear 8 0x1d c.args.self c.if-self-ge128.false
