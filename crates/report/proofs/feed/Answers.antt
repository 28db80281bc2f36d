-- `report::feed` meets its contract. Assumes nothing.
use Rattle.std.proofs.Common.{ap}
use Rattle.std.specs.Option.{is_some, unwrap_or}
use Rattle.report.proofs.Ways.{feed_on, feed_one}
use Rattle.report.proofs.feed.Goals as goal

pub returns-in_default : goal.returns-in_default
returns-in_default c =
    let both = feed_on c.args.r _ _ _ c.feed-f.ensures.answer _ _ _ c.feed-f.ensures.held (ap is_some c.in_default.is) in
    record { answer = both.0; held = both.1.0; between = both.1.1.0; text = both.1.1.1 }

pub returns-in-Some : goal.returns-in-Some
returns-in-Some c =
    let both = feed_one c.args.r _ _ _ c.feed-f.ensures.answer _ _ _ _ _ _ _ _ _ _ c.feed-f.ensures.held (ap is_some c.in-Some.is)
    (ap (λ o. unwrap_or o 0) c.in-Some.is) c.packet-packet.ensures (c.saw-lines.ensures.after, (c.saw-lines.ensures.between, c.saw-lines.ensures.text)) in
    record { answer = both.0; held = both.1.0; between = both.1.1.0; text = both.1.1.1 }
