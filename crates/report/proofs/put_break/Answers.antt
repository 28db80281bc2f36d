-- `report::put_break` meets its contract. Assumes nothing.
use Rattle.std.proofs.Common.{not, ap}
use Rattle.report.proofs.Ways.{break_refused, break_first, break_there}
use Rattle.report.proofs.put_break.Goals.{then-a-ne0-via-then-a-ne0, then-a-ne0-via-else-a-ne0+then-not-seen}
use Rattle.report.proofs.put_break.Goals as goal

pub returns-then-a-ne0 : goal.returns-then-a-ne0
returns-then-a-ne0 c =
    elim c.then-a-ne0.branch [
      | then-a-ne0-via-then-a-ne0 w ↦ break_refused c.args.seen.now c.args.a.now _ w.if-a-ne0.true
      | then-a-ne0-via-else-a-ne0+then-not-seen w ↦ break_first c.args.seen.now c.args.a.now _ w.if-a-ne0.false (ap not w.if-not-seen.true)
    ]

pub returns : goal.returns
returns c = search break_there
