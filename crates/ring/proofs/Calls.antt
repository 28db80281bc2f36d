-- What the calls leave, way by way. Assumes nothing.
use Prim.Native.Nat.{ℕ, ◌+◌, ◌-◌, ◌≤◌, ◌<◌}
use mathlib.Core.Path.{◌≡◌, sym, ap, ap₂, ◌∙◌}
use mathlib.Core.List.{List, ◌++◌}
use native.Mathlib.Omega.{arith}
use borrow.Author.Tests.{le-leb, lt-leb}
use lib.ListN.{length, take, drop, length-drop}
use lib.Seq.{take-append-le, take-append-add, length-take-le}
use Rattle.laws.specs.Written.{written}
use Rattle.laws.proofs.Flags.{and_false}
use Rattle.laws.proofs.Written.{written_length, write_next}
use Rattle.moves.specs.Moves.{placed}
use Rattle.moves.proofs.Turns.{placed_is}
use Rattle.ring.specs.Ring.{turned, around, copied_out, copied_in}
use Rattle.ring.proofs.Turned.{around_one}

-- ---- into the ring
module _ (r xs : List ℕ) (at : ℕ) where
  pub in_far : length r < at → r ≡ copied_in r at xs
  unfolding copied_in
  in_far h = simp (lt-leb at (length r) h)

  pub in_long : length r < length xs → r ≡ copied_in r at xs
  unfolding copied_in
  in_long h = simp (lt-leb (length xs) (length r) h, and_false)

  module _ (ha : at ≤ length r) (hn : length xs ≤ length r) where
    in_is : copied_in r at xs ≡ around r at xs
    unfolding copied_in
    in_is = simp (le-leb at (length r) ha, le-leb (length xs) (length r) hn)

    pub in_one : (d : List ℕ) → length xs ≤ length r - at → d ≡ placed r at xs → d ≡ copied_in r at xs
    in_one d h e =
        e
        ∙ placed_is r at xs (omega arith)
        ∙ sym (in_is ∙ around_one r at xs h)

    pub in_two : (a b d e : List ℕ) → length r - at < length xs → a ≡ take (length r - at) xs → b ≡ drop (length r - at) xs → d ≡ placed r at a → e ≡ placed d 0 b
        → e ≡ copied_in r at xs
    unfolding around
    in_two a b d e h ea eb ed ee =
        let k = length r - at in
        let la : length a ≡ k = ap length ea ∙ length-take-le k xs (omega arith) in
        let lb : length b ≡ length xs - k = ap length eb ∙ length-drop k xs in
        let w : d ≡ written r at a = ed ∙ placed_is r at a (omega arith) in
        let ld : length d ≡ length r = ap length w ∙ written_length r at a (omega arith) in
        ee
        ∙ placed_is d 0 b (omega arith)
        ∙ ap₂ (λ (x y : List ℕ). written x 0 y) (w ∙ ap (written r at) ea) eb
        ∙ sym in_is

-- ---- out of the ring
module _ (r dst : List ℕ) (at n : ℕ) where
  pub out_far : length r < at → dst ≡ copied_out r at n dst
  unfolding copied_out
  out_far h = simp (lt-leb at (length r) h)

  pub out_long : length r < n → dst ≡ copied_out r at n dst
  unfolding copied_out
  out_long h = simp (lt-leb n (length r) h, and_false)

  pub out_short : length dst < n → dst ≡ copied_out r at n dst
  unfolding copied_out
  out_short h = simp (lt-leb n (length dst) h, and_false)

  module _ (ha : at ≤ length r) (hn : n ≤ length r) (hd : n ≤ length dst) where
    out_is : copied_out r at n dst ≡ written dst 0 (take n (turned at r))
    unfolding copied_out
    out_is = simp (le-leb at (length r) ha, le-leb n (length r) hn, le-leb n (length dst) hd)

    -- in the terms of the call: f and k are the ring before the place and from it on
    module _ (f k : List ℕ) (ef : f ≡ take at r) (ek : k ≡ drop at r) where
      lk : length k ≡ length r - at
      lk = ap length ek ∙ length-drop at r

      pub out_one : (d : List ℕ) (m : ℕ) → n ≤ length k → d ≡ placed dst 0 (take m k) → m ≡ n → d ≡ copied_out r at n dst
      unfolding turned
      out_one d m h ed z =
          let l = lk in
          let la : length (take m k) ≡ n = length-take-le m k (omega arith) ∙ z in
          ed
          ∙ placed_is dst 0 (take m k) (omega arith)
          ∙ ap (written dst 0) (ap₂ take z ek ∙ sym (take-append-le n (drop at r) (take at r) (omega (arith, length-drop at r))))
          ∙ sym out_is

      pub out_two : (d e : List ℕ) (m : ℕ) → length k < n → d ≡ placed dst 0 k → e ≡ placed d (length k) (take m f) → m ≡ n - length k
          → e ≡ copied_out r at n dst
      unfolding turned
      out_two d e m h ed ee y =
          let l = lk in
          let lf : length f ≡ at = ap length ef ∙ length-take-le at r ha in
          let lb : length (take m f) ≡ m = length-take-le m f (omega arith) in
          let w : d ≡ written dst 0 k = ed ∙ placed_is dst 0 k (omega arith) in
          let ld : length d ≡ length dst = ap length w ∙ written_length dst 0 k (omega arith) in
          let z : n ≡ length (drop at r) + m = omega (arith, length-drop at r) in
          ee
          ∙ placed_is d (length k) (take m f) (omega arith)
          ∙ write_next dst d 0 k (take m f) (length k) (omega arith) (omega arith) w
          ∙ ap (written dst 0)
          (ap₂ (λ (x y : List ℕ). x ++ y) ek (ap (take m) ef)
          ∙ sym (ap (λ (j : ℕ). take j (drop at r ++ take at r)) z ∙ take-append-add (drop at r) (take at r) m))
          ∙ sym out_is
