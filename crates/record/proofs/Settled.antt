-- Each promise settles its call: two outcomes that meet it for the same input are equal (01, "Acceptance of the promises"). An input of
-- the latter is the two records. Assumes nothing.
use Rattle.std.proofs.Common.{◌≡◌, Bool, Result}
use Rattle.laws.specs.Settle.{Settles}
use Rattle.laws.proofs.Settle.{settled}
use Rattle.refusal.specs.declared.Refusal.{Refusal}
use Rattle.refusal.proofs.Told.{settled_told}
use Rattle.clock.specs.Answers.{judged_in}
use Rattle.clock.proofs.Settled.{judged_tells}
use Rattle.record.specs.declared.Record.{Record}
use Rattle.record.specs.Records.{no_record}
use Rattle.record.specs.Succession.{follows_for}

pub none : Settles (λ (i : Unit {0}) (r : Record). r ≡ no_record)
none = settled (λ i. no_record)

pub follows : Settles (λ (i : Record × Record) (o : Result Bool Refusal). judged_in o ≡ follows_for i.0 i.1)
follows = settled_told judged_tells (λ i. follows_for i.0 i.1)
