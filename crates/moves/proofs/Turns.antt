-- What the calls leave. Assumes nothing.
use mathlib.Core.Path.{◌≡◌, refl, sym, ap, ◌∙◌}
use mathlib.Core.List.{List}
use mathlib.Core.Bool.{Bool, true, false, ◌&&◌}
use Prim.Native.Nat.{ℕ, ◌+◌, ◌-◌, ◌≤◌, ◌<◌}
use native.Mathlib.Omega.{arith}
use borrow.Author.Tests.{le-leb, lt-leb, leb-true}
use lib.Dec.{leb}
use Rattle.laws.specs.Pick.{pick}
use lib.ListN.{length, get_or, set, take, drop, replicate, length-set, length-drop, length-replicate}
use lib.Seq.{take_all, length-take-le}
use Rattle.laws.specs.Written.{written}
use Rattle.laws.proofs.Written.{written_none, written_turn, written_length}
use borrow.Rule.Slice.PartMut.{put_mid, mid_of}
use Rattle.moves.specs.Moves.{placed, pulled}
use Rattle.moves.proofs.Parts.{part_written}

-- the first j bytes of xs stand in e at the offset
pub record Put (d : List ℕ) (at : ℕ) (xs e : List ℕ) (j : ℕ) : Type 0 where
  pub within : j ≤ length xs
  pub is : e ≡ written d at (take j xs)
  pub same : length e ≡ length d

pub put_none : (d : List ℕ) (at : ℕ) (xs : List ℕ) → Put d at xs d 0
put_none d at xs = record { within = omega arith; is = sym (written_none d at); same = refl }

pub put_one : (d : List ℕ) (at : ℕ) (xs e : List ℕ) (j v n : ℕ) (room : Bool) → length xs ≡ n → room ≡ leb (at + n) (length d) → room ≡ true → j < n → v ≡ get_or xs j 0
    → Put d at xs e j → Put d at xs (set e (at + j) v) (j + 1)
put_one d at xs e j v n room ln f t h q p =
    let k : at + n ≤ length d = leb-true (at + n) (length d) (sym f ∙ t) in
    record { within = omega arith; is = written_turn d e at xs j v (omega arith) (omega arith) q p.is; same = length-set e (at + j) v ∙ p.same }

pub put_all : (d : List ℕ) (at : ℕ) (xs e : List ℕ) (j n : ℕ) (room : Bool) → length xs ≡ n → room ≡ leb (at + n) (length d) → room ≡ true → n ≤ j → Put d at xs e j
    → e ≡ placed d at xs
unfolding placed
put_all d at xs e j n room ln f t m p =
    let k : at + n ≤ length d = leb-true (at + n) (length d) (sym f ∙ t) in
    simp (le-leb (at + length xs) (length d) (omega arith)) (p.is ∙ ap (written d at) (take_all j xs (omega arith)))

-- in the terms of the calls' test, with n bytes for the length of xs: the part of the slice that they are put in, and where they have no room
pub put_in : (d : List ℕ) (at : ℕ) (xs : List ℕ) (n : ℕ) (room : Bool) → length xs ≡ n → room ≡ leb (at + n) (length d) → room ≡ true
    → put_mid at (at + n - at) d xs ≡ placed d at xs
unfolding placed
put_in d at xs n room ln e t =
    let k : at + n - at ≡ length xs = omega arith in
    let f : leb (at + length xs) (length d) ≡ true = rw ln (sym e ∙ t) in
    rw f (part_written d xs at (at + n - at) k)

pub put_out : (d : List ℕ) (at : ℕ) (xs : List ℕ) (n : ℕ) (room : Bool) → length xs ≡ n → room ≡ leb (at + n) (length d) → room ≡ false
    → d ≡ placed d at xs
unfolding placed
put_out d at xs n room ln e t = let f : leb (at + length xs) (length d) ≡ false = rw ln (sym e ∙ t) in rw f refl

-- zeros in that part, as many as it has
pub zeros_in : (d : List ℕ) (at n : ℕ) (room : Bool) (e : List ℕ) → room ≡ leb (at + n) (length d) → room ≡ true
    → e ≡ replicate (length (mid_of at (at + n - at) d)) 0 → put_mid at (at + n - at) d e ≡ placed d at (replicate n 0)
zeros_in d at n room e p t q =
    let h : at + n ≤ length d = leb-true (at + n) (length d) (sym p ∙ t) in
    let k : at + n - at ≡ n = omega arith in
    let l : length (take (at + n - at) (drop at d)) ≡ n = length-take-le (at + n - at) (drop at d) (simp length-drop (omega arith)) ∙ k in
    rw (q, l) (put_in d at (replicate n 0) n room (length-replicate n 0) p t)

-- in the terms of the calls' tests
pub short : (d : List ℕ) (at : ℕ) (xs : List ℕ) (n : ℕ) → length xs ≡ n → length d < n → d ≡ placed d at xs
unfolding placed
short d at xs n ln h = simp (lt-leb (at + length xs) (length d) (omega arith))

pub outside : (d : List ℕ) (at : ℕ) (xs : List ℕ) (n : ℕ) → length xs ≡ n → n ≤ length d → length d - n < at → d ≡ placed d at xs
unfolding placed
outside d at xs n ln h l = simp (lt-leb (at + length xs) (length d) (omega arith))

-- where there is room, they are written
pub placed_is : (d : List ℕ) (at : ℕ) (xs : List ℕ) → at + length xs ≤ length d → placed d at xs ≡ written d at xs
unfolding placed
placed_is d at xs h = simp (le-leb (at + length xs) (length d) h)

-- ---- forward within the slice, as 01 has it of its store
-- where there is room, they are moved
pub pulled_is : (d : List ℕ) (to from n : ℕ) → to ≤ from → from + n ≤ length d → pulled d to from n ≡ written d to (take n (drop from d))
unfolding pulled
pulled_is d to from n h l = simp (le-leb to from h, le-leb (from + n) (length d) l)

pub pulled_length : (d : List ℕ) (to from n : ℕ) → length (pulled d to from n) ≡ length d
unfolding pulled
pulled_length d to from n = go (leb to from) refl (leb (from + n) (length d)) refl
  where
    go : (a : Bool) → leb to from ≡ a → (b : Bool) → leb (from + n) (length d) ≡ b → length (pick (a && b) (written d to (take n (drop from d))) d) ≡ length d
    go false ea b eb = refl
    go true ea false eb = refl
    go true ea true eb =
        let k : to ≤ from = leb-true to from ea in
        let l : from + n ≤ length d = leb-true (from + n) (length d) eb in
        let m : length (take n (drop from d)) ≡ n = length-take-le n (drop from d) (omega (arith, length-drop from d)) in
        written_length d to (take n (drop from d)) (omega arith)
