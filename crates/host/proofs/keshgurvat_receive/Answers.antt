-- `host::keshgurvat_receive` meets its contract. Assumes nothing.
use Rattle.receiver.specs.Answer.{told_of}
use Rattle.host.proofs.Numbers.{answer_made, values_made}
use Rattle.host.proofs.keshgurvat_receive.Goals as goal

pub returns : goal.returns
returns c =
    let t = told_of c.step-told.result in
    record {
      answer = answer_made _ t c.from.ensures _ _ _ _ c.step-told.ensures.answer;
      values = values_made _ t c.from.ensures _ _ _ _ c.step-told.ensures.values;
      memory = c.step-told.ensures.memory;
    }
