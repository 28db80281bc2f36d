-- Which timestamp followed which before E3 of 02: only one with the same UTCO (01, "Clock and recordings"). No code has this rule; it
-- stands here so that what stays is a theorem (Following.antt). Assumes nothing.
use Rattle.std.specs.Prelude.{Bool, false, ◌&&◌, eqb}
use Rattle.laws.specs.Pick.{pick}
use Rattle.laws.specs.Refuse.{refused_with}
use Rattle.clock.specs.declared.Stamp.{Stamp}
use Rattle.clock.specs.Answers.{Judged}
use Rattle.clock.specs.Follows.{time_follows, follows_tests}

unfoldable pub same_utco : Stamp → Stamp → Bool
same_utco a b = eqb b.utco a.utco

-- time and refusals as now
unfoldable pub followed_for : Stamp → Stamp → Judged
followed_for a b =
    let n = refused_with (follows_tests a b) in record { number = n; yes = pick (eqb n 0) (time_follows a b && same_utco a b) false }
