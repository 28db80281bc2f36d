-- The sender with counts, in 01's layout. Assumes nothing.
use Prim.Native.Nat.{ℕ, zero, suc, ◌<◌}
use mathlib.Core.Path.{◌≡◌, refl, sym}
use mathlib.Core.List.{List}
use mathlib.Core.Bool.{Bool, true, false}
use native.Mathlib.Omega.{arith}
use borrow.Author.Tests.{eqb-true, not-false}
use lib.Dec.{eqb}
use Rattle.laws.specs.Pick.{pick}
use Rattle.laws.proofs.Flags.{or_false}
use Rattle.hand.specs.Hand.{no_three}
use Rattle.hand.specs.declared.Settings.{Settings}
use Rattle.queue.specs.Queue.{waiting}
use Rattle.queue.specs.Stored.{miscounts}
use Rattle.sender.specs.State.{queue_of}
use Rattle.sender.specs.Kept.{Kept, stored_of, miscounted, kept_frame_number, kept_framed, kept_frame_for}

-- where no count is wrong, each is the sum
pub right_counts : (p : ℕ) (k : Kept) → miscounted p k ≡ false → (id : ℕ) → id < 3 → stored_of k id ≡ waiting p (queue_of k.front id)
unfolding miscounted miscounts
right_counts p k e id h =
    let o = or_false _ _ e in
    let n = or_false _ _ o.0 in
    each id h (eqb-true _ _ (not-false _ n.0)) (eqb-true _ _ (not-false _ n.1)) (eqb-true _ _ (not-false _ o.1))
  where
    each : (id : ℕ) → id < 3 → stored_of k 0 ≡ waiting p (queue_of k.front 0) → stored_of k 1 ≡ waiting p (queue_of k.front 1)
        → stored_of k 2 ≡ waiting p (queue_of k.front 2) → stored_of k id ≡ waiting p (queue_of k.front id)
    each zero h a b c = a
    each (suc zero) h a b c = b
    each (suc (suc zero)) h a b c = c
    each (suc (suc (suc id))) h a b c = absurd (omega arith)

-- the number that a frame answers is that of its tests
pub frame_says : (g : Settings) (k : Kept) (store out : List ℕ) → (kept_frame_for g k store out).number ≡ kept_frame_number g k store out
unfolding kept_frame_for kept_framed
frame_says g k store out = go (eqb (kept_frame_number g k store out) 0) refl
  where
    go : (b : Bool) → eqb (kept_frame_number g k store out) 0 ≡ b
        → (pick b (kept_framed g k) (record { number = kept_frame_number g k store out; next = k; packets = no_three; spares = 0; filler = 0 })).number
        ≡ kept_frame_number g k store out
    go true e = sym (eqb-true _ 0 e)
    go false e = refl
