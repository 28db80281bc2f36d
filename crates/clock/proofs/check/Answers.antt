-- `clock::check` meets its contract. Assumes nothing.
use Rattle.clock.proofs.Fit.{checks}
use Rattle.clock.proofs.check.Goals as goal
use Rattle.clock.proofs.check.Goals.{then-t-ge16384-via-then-t-ge16384, then-t-ge16384-via-else-t-ge16384+then-t-ge1099511627776, then-t-ge16384-via-else-t-ge16384+else-t-ge1099511627776+then-t-gt999}

pub returns-then-t-ge16384 : goal.returns-then-t-ge16384
returns-then-t-ge16384 c =
    elim c.then-t-ge16384.branch [ then-t-ge16384-via-then-t-ge16384 w ↦ search checks | then-t-ge16384-via-else-t-ge16384+then-t-ge1099511627776 w ↦ search checks | then-t-ge16384-via-else-t-ge16384+else-t-ge1099511627776+then-t-gt999 w ↦ search checks ]

pub returns : goal.returns
returns c = search checks
