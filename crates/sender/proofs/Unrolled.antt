-- The store in the order of its queues. Assumes nothing.
use Prim.Native.Nat.{ℕ, zero, suc, ◌*◌, ◌<◌}
use mathlib.Core.Path.{◌≡◌, sym, ap, ◌∙◌}
use mathlib.Core.List.{List, ◌++◌}
use native.Mathlib.Omega.{arith}
use lib.Dec.{lit<}
use lib.ListN.{length, get_or, take, drop, length-drop}
use lib.Seq.{take_all, take_at, drop_at, drop-drop, length-take-le}
use Rattle.laws.specs.Part.{part_of}
use Rattle.ring.proofs.Turned.{turned_length}
use Rattle.sender.specs.Rings.{ring_of, unrolled}

pub part_length : (store : List ℕ) (id : ℕ) → id < 3 → length store ≡ 12288 → length (part_of store id) ≡ 4096
part_length store id h l = length-take-le 4096 (drop (id * 4096) store) (omega (arith, length-drop (id * 4096) store))

module _ (starts store : List ℕ) (l : length store ≡ 12288) where
  pub ring_length : (id : ℕ) → id < 3 → length (ring_of starts store id) ≡ 4096
  ring_length id h = turned_length (get_or starts id 0) (part_of store id) ∙ part_length store id h l

  -- each part is its queue's ring
  pub part_unrolled : (id : ℕ) → id < 3 → part_of (unrolled starts store) id ≡ ring_of starts store id
  unfolding unrolled
  part_unrolled zero h = take_at (ring_of starts store 0) _ 4096 (ring_length 0 h)
  part_unrolled (suc zero) h =
      ap (take 4096) (drop_at (ring_of starts store 0) _ 4096 (ring_length 0 (lit< tt))) ∙ take_at (ring_of starts store 1) _ 4096 (ring_length 1 h)
  part_unrolled (suc (suc zero)) h =
      let a = ring_of starts store 0 in
      let b = ring_of starts store 1 in
      let c = ring_of starts store 2 in
      let z : drop 8192 (a ++ (b ++ c)) ≡ drop 4096 (drop 4096 (a ++ (b ++ c))) = sym (drop-drop 4096 4096 (a ++ (b ++ c))) in
      ap (take 4096) (z ∙ ap (drop 4096) (drop_at a (b ++ c) 4096 (ring_length 0 (lit< tt))) ∙ drop_at b c 4096 (ring_length 1 (lit< tt)))
      ∙ take_all 4096 c (let e = ring_length 2 h in omega arith)
  part_unrolled (suc (suc (suc id))) h = absurd (omega arith)
