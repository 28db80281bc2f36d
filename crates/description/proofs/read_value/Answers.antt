-- `description::read_value` meets its contract. Assumes nothing.
use Rattle.description.proofs.Ways.{reading}
use Rattle.description.proofs.read_value.Goals as goal

pub returns-then-long-clause-number : goal.returns-then-long-clause-number
returns-then-long-clause-number c = search reading

pub returns-then-not-is_value_length-clause-number : goal.returns-then-not-is_value_length-clause-number
returns-then-not-is_value_length-clause-number c = search reading

pub returns-then-mode-gt3-clause-number : goal.returns-then-mode-gt3-clause-number
returns-then-mode-gt3-clause-number c = search reading

pub returns-then-is_unserved-clause-number : goal.returns-then-is_unserved-clause-number
returns-then-is_unserved-clause-number c = search reading

pub returns-then-wrong_head-ill_formed-clause-number : goal.returns-then-wrong_head-ill_formed-clause-number
returns-then-wrong_head-ill_formed-clause-number c = search reading

pub returns-clause-number : goal.returns-clause-number
returns-clause-number c = search reading
