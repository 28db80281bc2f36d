-- 400 ms later, with the carry into the seconds: the definition, and the code's two cases. Later by exactly 400 ms. Assumes nothing.
use Prim.Native.Nat.{ℕ, ◌+◌, ◌-◌, ◌*◌, ◌/◌, ◌%◌, ◌<◌, ◌≤◌}
use mathlib.Core.Path.{◌≡◌, refl, ap₂}
use native.Mathlib.Nat.{div-add-mod'}
use native.Mathlib.Omega.{arith}
use Rattle.clock.specs.declared.Stamp.{Stamp}
use Rattle.clock.specs.Stamps.{Within}
use Rattle.clock.specs.Next.{elapsed, later}

module _ (t : Stamp) where
  pub later_is : (s m : ℕ) → s * 1000 + m ≡ elapsed t + 400 → m ≤ 999 → record { utco = t.utco; seconds = s; milliseconds = m } ≡ later t
  unfolding later
  later_is s m e h =
      let n = elapsed t + 400 in
      let q : s ≡ n / 1000 = omega arith in
      let r : m ≡ n % 1000 = omega arith in
      ap₂ (λ (a b : ℕ). record { utco = t.utco; seconds = a; milliseconds = b }) q r

  -- below 600 ms the second stays
  pub stays : t.milliseconds < 600 → record { utco = t.utco; seconds = t.seconds; milliseconds = t.milliseconds + 400 } ≡ later t
  unfolding elapsed
  stays h = later_is t.seconds (t.milliseconds + 400) (omega arith) (omega arith)

  -- from 600 ms on it is the next
  pub carries : Within t → 600 ≤ t.milliseconds → record { utco = t.utco; seconds = t.seconds + 1; milliseconds = t.milliseconds - 600 } ≡ later t
  unfolding elapsed
  carries w h = later_is (t.seconds + 1) (t.milliseconds - 600) (omega arith) (omega (arith, w.milliseconds))

  pub exactly_later : elapsed (later t) ≡ elapsed t + 400
  unfolding elapsed later
  exactly_later = div-add-mod' (elapsed t + 400) 1000

  pub same_utco_law : (later t).utco ≡ t.utco
  unfolding later
  same_utco_law = refl

pub ruleset turns = (stays, carries)
