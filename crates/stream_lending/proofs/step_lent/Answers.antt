-- `stream_lending::step_lent` meets its contract. Assumes nothing.
use Rattle.receiver.proofs.Steps.{told_is}
use Rattle.stream_lending.proofs.step_lent.Goals as goal

pub returns-clause-answer : goal.returns-clause-answer
returns-clause-answer c = told_is _ _ _ _ _ _ c.step_in-heard.ensures.answer c.step_in-heard.ensures.state
