-- The tests of a timestamp's fields let through exactly those that fit. Assumes nothing.
use Prim.Native.Nat.{◌<◌, ◌≤◌}
use mathlib.Core.Path.{◌≡◌}
use borrow.Author.Tests.{le-leb, lt-leb, le-ltb, lt-ltb, leb-false, ltb-false}
use lib.Dec.{lit<}
use Rattle.laws.specs.Refuse.{refused_with, Real, Free}
use Rattle.laws.proofs.Refuse.{free, accepted}
use Rattle.clock.specs.declared.Stamp.{Stamp}
use Rattle.clock.specs.Stamps.{Within, field_tests}

module _ (t : Stamp) where
  real_fields : Real (field_tests t)
  unfolding field_tests
  real_fields = (lit< tt, (lit< tt, (lit< tt, tt)))

  pub free_fields : refused_with (field_tests t) ≡ 0 → Free (field_tests t)
  free_fields e = free (field_tests t) real_fields e

  pub within : refused_with (field_tests t) ≡ 0 → Within t
  unfolding field_tests
  within e =
      let f = free_fields e in
      record { utco = leb-false _ _ f.0; seconds = leb-false _ _ f.1.0; milliseconds = ltb-false _ _ f.1.1.0 }

  pub fits : Within t → refused_with (field_tests t) ≡ 0
  unfolding field_tests
  fits w = accepted (field_tests t) (lt-leb _ _ w.utco, (lt-leb _ _ w.seconds, (le-ltb _ _ w.milliseconds, tt)))

  -- the answers of the check, by the way taken through it
  pub utco_large : 16384 ≤ t.utco → 6 ≡ refused_with (field_tests t)
  unfolding field_tests
  utco_large h = simp (le-leb _ _ h)

  pub seconds_large : t.utco < 16384 → 1099511627776 ≤ t.seconds → 6 ≡ refused_with (field_tests t)
  unfolding field_tests
  seconds_large u h = simp (lt-leb _ _ u, le-leb _ _ h)

  pub milliseconds_large : t.utco < 16384 → t.seconds < 1099511627776 → 999 < t.milliseconds → 6 ≡ refused_with (field_tests t)
  unfolding field_tests
  milliseconds_large u s h = simp (lt-leb _ _ u, lt-leb _ _ s, lt-ltb _ _ h)

  pub all_fit : t.utco < 16384 → t.seconds < 1099511627776 → t.milliseconds ≤ 999 → 0 ≡ refused_with (field_tests t)
  unfolding field_tests
  all_fit u s m = simp (lt-leb _ _ u, lt-leb _ _ s, le-ltb _ _ m)

pub ruleset checks = (utco_large, seconds_large, milliseconds_large, all_fit)
