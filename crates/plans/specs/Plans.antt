-- Settings with a second set of N, shares and ceilings that waits for its frame count (02, E10). p is the record's, for both sets. Assumes
-- nothing.
use Rattle.std.specs.Prelude.{ℕ, List, [], ◌∷◌, false, true, not, ◌&&◌, eqb, Result, Ok, Err}
use Rattle.laws.specs.Pick.{pick}
use Rattle.laws.specs.Refuse.{Test, test, refused_with}
use Rattle.refusal.specs.declared.Refusal.{Refusal}
use Rattle.refusal.specs.Refusal.{number_of}
use Rattle.hand.specs.Settings.{settings_for}
use Rattle.hand.specs.Hand.{no_three, Handed, hand_for}
use Rattle.hand.specs.declared.Three.{Three}
use Rattle.hand.specs.declared.Settings.{Settings}
use Rattle.plans.specs.declared.Second.{Second}
use Rattle.plans.specs.declared.Plans.{Plans}

-- ---- the record
-- no set waits
abbrev pub no_second : Second
no_second = record { waits = false; count = 0; n = 0; share = no_three; ceiling = no_three }

-- these settings, and none waits
abbrev pub alone : Settings → Plans
alone g = record { now = g; second = no_second }

-- a set as settings: p is the record's
abbrev pub set_with : Plans → ℕ → Three → Three → Settings
set_with g n share ceiling = record { p = g.now.p; n = n; share = share; ceiling = ceiling }

-- the second set as settings
abbrev pub second_of : Plans → Settings
second_of g = set_with g g.second.n g.second.share g.second.ceiling

-- ---- refusal 13: the first set, or a set that waits, outside 01's limits. Where none waits the rest of the second is not looked at
unfoldable pub plan_tests : Plans → List Test
plan_tests g =
    test (not (eqb (settings_for g.now) 0)) 13 ∷ test (g.second.waits && not (eqb (settings_for (second_of g)) 0)) 13 ∷ []

unfoldable pub plans_for : Plans → ℕ
plans_for g = refused_with (plan_tests g)

-- ---- the switch
-- the record once the second set has taken over
abbrev pub taken : Plans → Plans
taken g = alone (second_of g)

-- the record at the frame with count f: where a set waits for f, that set is in force and none waits
unfoldable pub in_force : ℕ → Plans → Plans
in_force f g = pick (g.second.waits && eqb g.second.count f) (taken g) g

-- what the frame with count f hands out
unfoldable pub plan_hand_for : Plans → ℕ → Three → ℕ → Handed
plan_hand_for g f waiting turn =
    pick (eqb (plans_for g) 0) (hand_for (in_force f g).now waiting turn)
    (record { number = plans_for g; packets = no_three; spares = 0; filler = 0; turn = 0 })

-- ---- another second set
-- the record with this set waiting for count c, whatever waited before
abbrev pub changed : Plans → ℕ → ℕ → Three → Three → Plans
changed g c n share ceiling = record { now = g.now; second = record { waits = true; count = c; n = n; share = share; ceiling = ceiling } }

-- what the call answers: the number, and the record after the call
pub record Changed : Type 0 where
  pub number : ℕ
  pub next : Plans

-- and in these terms: a refused one leaves the record as it came
abbrev pub changed_in : Plans → Result Plans Refusal → Changed
changed_in g (Ok t) = record { number = 0; next = t }
changed_in g (Err r) = record { number = number_of r; next = g }

unfoldable pub change_tests : Plans → ℕ → Three → Three → List Test
change_tests g n share ceiling =
    test (not (eqb (plans_for g) 0)) 13 ∷ test (not (eqb (settings_for (set_with g n share ceiling)) 0)) 13 ∷ []

unfoldable pub change_for : Plans → ℕ → ℕ → Three → Three → Changed
change_for g c n share ceiling =
    let number = refused_with (change_tests g n share ceiling) in
    record { number = number; next = pick (eqb number 0) (changed g c n share ceiling) g }
