-- What condition C rules out, whatever the sender: nothing but filler, from the first frame on or later; a frame refused for what the last one
-- left; a load that takes no unit. Assumes nothing.
use Prim.Native.Nat.{ℕ, ◌<◌, ◌≤◌, ◌*◌, ◌+◌}
use mathlib.Core.Path.{◌≡◌, ◌∙◌}
use mathlib.Core.List.{List, map}
use native.Mathlib.Omega.{arith}
use borrow.Author.Tests.{le-ltb}
use lib.ListN.{length}
use Rattle.hand.specs.Settings.{at, Allowed}
use Rattle.hand.specs.declared.Settings.{Settings}
use Rattle.hand.proofs.Allowed.{allowed_back}
use Rattle.queue.specs.Queue.{add_up, same}
use Rattle.demand.specs.Run.{load, frame}
use Rattle.demand.specs.Log.{Event, left_of, waiting_at}
use Rattle.demand.specs.Condition.{Called, Written, carries, frame_refused, Condition}

module _ (p : ℕ) (es : List Event) (k : Condition p es) where
  -- a frame without a packet of a queue that has a share, where packets of it wait
  pub no_filler_alone : (f : Written es) (id : ℕ) → id < 3 → 1 ≤ at f.g.share id → 1 ≤ waiting_at p id f.before → carries f id ≡ 0 → ⊥
  no_filler_alone f id h s w z = omega (arith, k.share f id h)

  -- a frame with allowed settings, and room for its output, is written
  pub no_frame_refused : (c : Called es) (g : Settings) (out : List ℕ) → c.act ≡ frame g out → g.p ≡ p → Allowed g → g.n * (g.p + 3) ≤ length out
      → c.answer.number ≡ 0
  unfolding frame_refused
  no_frame_refused c g out a e al l = k.frames c g out a e ∙ simp (allowed_back g al, le-ltb (length out) (g.n * (g.p + 3)) l)

  -- a unit for which there is room is taken
  pub no_unit_refused : (c : Called es) (g : Settings) (id : ℕ) (unit : List ℕ) → c.act ≡ load g id unit → g.p ≡ p → Allowed g → 1 ≤ length unit
      → length unit ≤ 4096 → id ≤ 2 → length unit + add_up same (map length (left_of p id c.before)) ≤ 4096 → length (left_of p id c.before) < 8
      → c.answer.number ≡ 0
  no_unit_refused c g id unit a e al lo hi h b n = (k.room c g id unit a e al lo hi h).1 (b, n)
