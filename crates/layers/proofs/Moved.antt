-- The store after a frame where the bytes stand as in 01: each part by itself. Assumes nothing.
use Prim.Native.Nat.{ℕ, zero, suc, ◌+◌, ◌≤◌, ◌<◌}
use mathlib.Core.Path.{◌≡◌, ap, ◌∙◌}
use mathlib.Core.List.{List}
use native.Mathlib.Omega.{arith}
use lib.Dec.{lit<}
use lib.ListN.{length, take, drop}
use Rattle.laws.specs.Part.{part_of}
use Rattle.laws.specs.Written.{written}
use Rattle.laws.proofs.Written.{front}
use Rattle.hand.specs.Settings.{at, Allowed}
use Rattle.hand.specs.declared.Three.{Three}
use Rattle.hand.specs.declared.Settings.{Settings}
use Rattle.queue.specs.Queue.{unsent}
use Rattle.row.specs.declared.Out.{Out}
use Rattle.sender.specs.Frame.{hand_of, end_of, closed, closed_all}
use Rattle.demand.specs.Run.{Desk}
use Rattle.demand.proofs.Good.{Good, end_whole}
use Rattle.demand.proofs.Held.{moved, moved_length, closed_own, closed_other, closed_size}

module _ (g : Settings) (x : Desk) (k : Good g.p x) (al : Allowed g) where
  abbrev N : Three
  N = (hand_of g x.state).packets

  abbrev end : ℕ → Out
  end id = end_of g.p x.state id (at N id)

  inside : (id : ℕ) → id < 3 → (end id).at + unsent (end id).q ≤ 4096
  inside id h = (end_whole g.p x k al.low id (at N id) h).inside

  abbrev s0 : List ℕ
  s0 = closed x.store 0 (end 0)

  abbrev s1 : List ℕ
  s1 = closed s0 1 (end 1)

  l0 : length s0 ≡ 12288
  l0 = closed_size x.store 0 (end 0) (lit< tt) k.store (inside 0 (lit< tt))

  l1 : length s1 ≡ 12288
  l1 = closed_size s0 1 (end 1) (lit< tt) l0 (inside 1 (lit< tt))

  -- the bytes of queue id that the frame leaves, where they stood in its part
  abbrev left : List ℕ → ℕ → List ℕ
  left part id = take (unsent (end id).q) (drop (end id).at part)

  part_after : (id : ℕ) → id < 3 → part_of (closed_all g.p x.state N x.store) id ≡ written (part_of x.store id) 0 (left (part_of x.store id) id)
  unfolding closed_all moved
  part_after zero h =
      closed_other s1 2 (end 2) (lit< tt) l1 (inside 2 (lit< tt)) 0 (λ e. omega arith)
      ∙ closed_other s0 1 (end 1) (lit< tt) l0 (inside 1 (lit< tt)) 0 (λ e. omega arith)
      ∙ closed_own x.store 0 (end 0) (lit< tt) k.store (inside 0 (lit< tt))
  part_after (suc zero) h =
      closed_other s1 2 (end 2) (lit< tt) l1 (inside 2 (lit< tt)) 1 (λ e. omega arith)
      ∙ closed_own s0 1 (end 1) (lit< tt) l0 (inside 1 (lit< tt))
      ∙ ap (λ (d : List ℕ). written d 0 (left d 1)) (closed_other x.store 0 (end 0) (lit< tt) k.store (inside 0 (lit< tt)) 1 (λ e. omega arith))
  part_after (suc (suc zero)) h =
      closed_own s1 2 (end 2) (lit< tt) l1 (inside 2 (lit< tt))
      ∙ ap (λ (d : List ℕ). written d 0 (left d 2))
      (closed_other s0 1 (end 1) (lit< tt) l0 (inside 1 (lit< tt)) 2 (λ e. omega arith)
      ∙ closed_other x.store 0 (end 0) (lit< tt) k.store (inside 0 (lit< tt)) 2 (λ e. omega arith))
  part_after (suc (suc (suc id))) h = absurd (omega arith)

  -- they stand at the front
  pub left_after : (id : ℕ) → id < 3
      → take (unsent (end id).q) (part_of (closed_all g.p x.state N x.store) id) ≡ take (unsent (end id).q) (drop (end id).at (part_of x.store id))
  unfolding moved
  left_after id h =
      ap (take (unsent (end id).q)) (part_after id h)
      ∙ front (part_of x.store id) (left (part_of x.store id) id) (unsent (end id).q) (moved_length x.store id (end id) h k.store (inside id h))
