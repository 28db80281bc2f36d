-- `fac::check_value` meets its contract. Assumes nothing.
use Rattle.fac.proofs.Ways.{reading}
use Rattle.fac.proofs.check_value.Goals as goal

pub returns-then-value-gt65528 : goal.returns-then-value-gt65528
returns-then-value-gt65528 c = search reading

pub returns-then-value-ne9 : goal.returns-then-value-ne9
returns-then-value-ne9 c = search reading

pub returns-then-not-is_sealed : goal.returns-then-not-is_sealed
returns-then-not-is_sealed c = search reading

pub returns-then-not_served : goal.returns-then-not_served
returns-then-not_served c = search reading

pub returns : goal.returns
returns c = search reading
