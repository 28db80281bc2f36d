-- `turn` of the 16-bit register meets its contract. Assumes nothing.
use native.Mathlib.Omega.{arith}
use Rattle.crc.specs.Register.{register16}
use Rattle.crc.proofs.Turns.{turn_set, turn_clear}
use Rattle.crc.proofs.U16Word.turn.Goals as goal

pub returns-then-self-ge32768 : goal.returns-then-self-ge32768
returns-then-self-ge32768 c = turn_set c.args.self register16 (omega arith) c.if-self-ge32768.true

pub returns-else-self-ge32768 : goal.returns-else-self-ge32768
returns-else-self-ge32768 c = turn_clear 16 0x1021 c.args.self c.if-self-ge32768.false
