-- `clock::decode` meets its contract. Assumes nothing.
use Rattle.clock.proofs.Answers.{decode_long, decode_length, decode_late, decode_done}
use Rattle.clock.proofs.decode.Goals as goal

pub returns-then-value-gt65528 : goal.returns-then-value-gt65528
returns-then-value-gt65528 c = decode_long _ c.if-value-gt65528.true

pub returns-then-value-ne8 : goal.returns-then-value-ne8
returns-then-value-ne8 c = decode_length _ c.if-value-gt65528.false c.if-value-ne8.true

pub returns-then-stamp-gt999 : goal.returns-then-stamp-gt999
returns-then-stamp-gt999 c = decode_late c.args.value.now c.if-value-ne8.false _ c.read64.ensures _ c.stamp_of-stamp.ensures c.if-stamp-gt999.true

pub returns : goal.returns
returns c = decode_done c.args.value.now c.if-value-ne8.false _ c.read64.ensures _ c.stamp_of-stamp.ensures c.if-stamp-gt999.false
