-- Which timestamp follows which (01, "Clock and recordings", as 02, E3 corrects it). Its own rule, beside that of the next timestamp.
-- Assumes nothing.
use Rattle.std.specs.Prelude.{ℕ, ◌+◌, ◌%◌, ◌^◌, Bool, false, ◌&&◌, ◌||◌, List, ◌++◌, eqb}
use Rattle.laws.specs.Pick.{pick}
use Rattle.laws.specs.Refuse.{Test, refused_with}
use Rattle.clock.specs.declared.Stamp.{Stamp}
use Rattle.clock.specs.Answers.{Judged}
use Rattle.clock.specs.Next.{elapsed}
use Rattle.clock.specs.Stamps.{field_tests}

-- the second is 400 ms on
unfoldable pub time_follows : Stamp → Stamp → Bool
time_follows a b = eqb (elapsed b) (elapsed a + 400)

-- one more, modulo 16,384
unfoldable pub one_more : ℕ → ℕ
one_more u = (u + 1) % 2 ^ 14

-- and its UTCO is the same, one more or one less: it changes with each leap second, while the seconds run on evenly (002, 5.2.2)
unfoldable pub utco_follows : Stamp → Stamp → Bool
utco_follows a b = eqb b.utco a.utco || eqb b.utco (one_more a.utco) || eqb a.utco (one_more b.utco)

unfoldable pub stamp_follows : Stamp → Stamp → Bool
stamp_follows a b = time_follows a b && utco_follows a b

-- the refusals: the fields of either
unfoldable pub follows_tests : Stamp → Stamp → List Test
follows_tests a b = field_tests a ++ field_tests b

unfoldable pub follows_for : Stamp → Stamp → Judged
follows_for a b =
    let n = refused_with (follows_tests a b) in record { number = n; yes = pick (eqb n 0) (stamp_follows a b) false }
