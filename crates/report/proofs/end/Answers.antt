-- `report::end` meets its contract. Assumes nothing.
use Rattle.report.proofs.Ways.{end_done}
use Rattle.report.proofs.end.Goals as goal

pub returns : goal.returns
returns c = let both = end_done c.args.r _ _ _ _ _ _ _ c.end.ensures c.summary.ensures c.put_refusal.ensures in record { answer = both.0; text = both.1.0; reason = both.1.1 }
