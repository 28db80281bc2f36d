-- `meter::meter_mdi_write` meets its contract. Assumes nothing.
use mathlib.Core.Path.{◌∙◌}
use Rattle.meter.proofs.Ways.{wrote_is, out_is}
use borrow.Author.Rules.{rules}
use Rattle.meter.proofs.meter_mdi_write.Goals as goal

pub returns-in-Ok : goal.returns-in-Ok
returns-in-Ok c = record {
  answer = rw c.in-Ok.is at (wrote_is _ _ c.record_of-r.ensures _ _ _ c.write.ensures.answer);
  memory = search (out_is, rules);
}

pub returns-in-Err : goal.returns-in-Err
returns-in-Err c = record {
  answer = c.number.ensures ∙ (rw c.in-Err.is at (wrote_is _ _ c.record_of-r.ensures _ _ _ c.write.ensures.answer));
  memory = search (out_is, rules);
}
