-- `sender::Sender::is_faulty` meets its contract. Assumes nothing.
use native.Mathlib.Omega.{arith}
use borrow.Author.Rules.{rules}
use Rattle.sender.proofs.Checks.{looked_none, looked_more, faulty_start, faulty_queue, faulty_turn, faulty_index, faulty_rest}
use Rattle.sender.proofs.Sender.is_faulty.Goals as goal

pub returns-then-is_stray : goal.returns-then-is_stray
returns-then-is_stray c = search (faulty_start, rules)

pub loop-id-init : goal.loop-id-init
loop-id-init c = search looked_none

pub returns-then-is_wrong : goal.returns-then-is_wrong
returns-then-is_wrong c = search (faulty_queue, rules)

pub loop-id-preserved : goal.loop-id-preserved
loop-id-preserved c = looked_more _ _ _ (omega arith) _ c.is_wrong.ensures c.if-is_wrong.false c.loop-id.invariant

pub returns-then-self-gt2 : goal.returns-then-self-gt2
returns-then-self-gt2 c = search faulty_turn

pub returns-then-index-gt7 : goal.returns-then-index-gt7
returns-then-index-gt7 c = search (faulty_index, rules)

pub returns-then-index-gt7-2 : goal.returns-then-index-gt7-2
returns-then-index-gt7-2 c = search (faulty_index, rules)

pub returns-then-index-gt7-3 : goal.returns-then-index-gt7-3
returns-then-index-gt7-3 c = search (faulty_index, rules)

pub returns : goal.returns
returns c = search (faulty_rest, rules)
