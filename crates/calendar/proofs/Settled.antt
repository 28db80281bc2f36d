-- Each promise settles its call: two outcomes that meet it for the same input are equal (01, "Acceptance of the promises"). The promise is a
-- condition: no two dates have the same seconds before them. Assumes nothing.
use Rattle.laws.specs.Settle.{Settles}
use Rattle.calendar.specs.Calendar.{DateOf}
use Rattle.calendar.proofs.Parts.{one_date}

pub utc : Settles DateOf
utc = one_date
