-- `receiver::step_in` meets its contract. Assumes nothing.
use Rattle.receiver.proofs.Steps.{heard_is}
use Rattle.receiver.proofs.step_in.Goals as goal

pub returns-clause-answer : goal.returns-clause-answer
returns-clause-answer c = heard_is _ _ _ _ _ c.step-t.ensures.answer
