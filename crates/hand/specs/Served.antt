-- What condition C asks of one frame of n packets: w packets wait in each queue, s are the shares, m the ceilings, and each queue got
-- so many. Assumes nothing.
use Rattle.std.specs.Prelude.{ℕ, ◌≤◌, ◌<◌, min, ◌≡◌}
use Rattle.hand.specs.Settings.{at, total}
use Rattle.hand.specs.declared.Three.{Three}

pub record Served (n : ℕ) (w s m got : Three) : Type 0 where
  -- each queue has at least the smaller of its share and what waits
  pub share : (i : ℕ) → min (at s i) (at w i) ≤ at got i
  -- no more than waits, and no more than its ceiling
  pub waiting : (i : ℕ) → at got i ≤ at w i
  pub ceiling : (i : ℕ) → at got i ≤ at m i
  pub whole : total got ≤ n
  -- filler only where no queue could take one more
  pub filler : total got < n → (i : ℕ) → at got i ≡ min (at w i) (at m i)
