-- What the passes over a packet do at an offset, in the code's words. Assumes nothing.
use mathlib.Core.Path.{◌≡◌, refl, sym, ap, ap₂, ◌∙◌}
use mathlib.Core.List.{List, []}
use Prim.Native.Nat.{ℕ, suc, ◌+◌, ◌*◌, ◌-◌, ◌≤◌, ◌<◌}
use native.Mathlib.Omega.{arith}
use borrow.Author.Tests.{le-leb, lt-leb}
use lib.ListN.{length, take, drop, length-drop}
use lib.Seq.{drop-drop, take_all}
use Rattle.laws.specs.Big.{big_of, number_at}
use Rattle.items.specs.Items.{Cut, bytes_for, bits_at, size_of, no_item, item_then, cut_from, cut_of, size_at, shown_at, walked_of}
use Rattle.items.specs.declared.Spot.{Spot}
use Rattle.items.specs.declared.Walked.{Walked}
use Rattle.items.proofs.Rule.{at_none, at_item, at_fits, size_pos}

-- ---- `size_at`

number_later : (s : List ℕ) (at : ℕ) → at + 8 ≤ length s → number_at 4 (drop at s) 4 ≡ number_at 4 s (at + 4)
unfolding number_at
number_later s at h =
    let l = length-drop at s in
    let a : 4 + 4 ≤ length (drop at s) = omega arith in
    let b : at + 4 + 4 ≤ length s = omega arith in
    rw (le-leb (4 + 4) (length (drop at s)) a, le-leb (at + 4 + 4) (length s) b) (ap (λ (t : List ℕ). big_of (take 4 t)) (drop-drop 4 at s))

-- what `get` gives from an offset on
pub rest_at : (s r : List ℕ) (at : ℕ) → at ≤ length s → r ≡ take (length s - at) (drop at s) → r ≡ drop at s
rest_at s r at h e = e ∙ take_all (length s - at) (drop at s) (simp length-drop (omega arith))

module _ (s : List ℕ) (at : ℕ) where
  pub size_none : length s < at → 0 ≡ size_at s at
  unfolding size_at
  size_none h =
      let k : length (drop at s) < size_of (drop at s) = omega (arith, length-drop at s, size_pos (drop at s)) in
      rw (lt-leb _ _ k) refl

  module _ (r : List ℕ) (e : r ≡ drop at s) (w b : ℕ) (f : w ≡ number_at 4 r 4) (g : b ≡ bytes_for w) where
    size_is : 8 + b ≡ size_of (drop at s)
    unfolding size_of bits_at
    size_is = ap (λ (n : ℕ). 8 + n) (g ∙ ap bytes_for (f ∙ ap (λ (t : List ℕ). number_at 4 t 4) e))

    pub size_past : length r < 8 + b → 0 ≡ size_at s at
    unfolding size_at
    size_past h =
        let k : length (drop at s) < size_of (drop at s) = omega (arith, ap length e, size_is) in
        rw (lt-leb _ _ k) refl

    pub size_whole : 8 + b ≤ length r → 8 + b ≡ size_at s at
    unfolding size_at
    size_whole h =
        let k : size_of (drop at s) ≤ length (drop at s) = omega (arith, ap length e, size_is) in
        rw (le-leb _ _ k) size_is

-- ---- `walk`

-- what is counted, and what is still to come, is all
pub record Walking (S : List ℕ) (at count : ℕ) : Type 0 where
  pub inside : at ≤ length S
  pub few : count * 8 ≤ at
  pub stop : (cut_from (drop at S) at).stop ≡ (cut_of S).stop
  pub rest : count + length (cut_from (drop at S) at).items ≡ length (cut_of S).items

pub walking_first : (S : List ℕ) → Walking S 0 0
unfolding cut_of
walking_first S = record { inside = omega arith; few = omega arith; stop = refl; rest = omega arith }

module _ (S : List ℕ) (at count n : ℕ) (w : Walking S at count) (size : n ≡ size_at S at) where
  pub walking_done : n ≡ 0 → ◌≡◌ {A = Walked} (record { stop = at; count = count }) (walked_of (cut_of S))
  unfolding walked_of no_item
  walking_done z =
      let e = at_none S at n size z in
      let s : at ≡ (cut_of S).stop = sym (ap (λ (c : Cut). c.stop) e) ∙ w.stop in
      let k : count + 0 ≡ length (cut_of S).items = sym (ap (λ (c : Cut). count + length c.items) e) ∙ w.rest in
      let c : count ≡ length (cut_of S).items = omega arith in
      cc

  module _ (some' : n ≡ 0 → ⊥) where
    pub walking_room : (at + n ≤ length S) × (8 ≤ n) × (count + 1 ≤ length S)
    walking_room =
        let f = at_fits S at n size some' in
        let a = f.0 in
        let b = f.1 in
        let k = w.few in
        (omega arith, omega arith, omega arith)

    pub walking_more : Walking S (at + n) (count + 1)
    unfolding item_then
    walking_more =
        let e = at_item S at n size some' in
        let f = at_fits S at n size some' in
        let a = f.0 in
        let b = f.1 in
        let k = w.few in
        let r : count + suc (length (cut_from (drop (at + n) S) (at + n)).items) ≡ length (cut_of S).items = sym (ap (λ (c : Cut). count + length c.items) e) ∙ w.rest in
        record {
          inside = omega arith;
          few = omega arith;
          stop = sym (ap (λ (c : Cut). c.stop) e) ∙ w.stop;
          rest = omega arith;
        }

pub ruleset walks = (walking_first, walking_done, walking_more)

-- the length of an item, at an offset
pub bits_later : (S : List ℕ) (at n : ℕ) → n ≡ size_at S at → (n ≡ 0 → ⊥) → bits_at (drop at S) ≡ number_at 4 S (at + 4)
unfolding bits_at
bits_later S at n size some' =
    let f = at_fits S at n size some' in
    let a = f.0 in
    let b = f.1 in
    number_later S at (omega arith)

-- ---- names as numbers

-- the number at an item is its name's
pub name_number : (S : List ℕ) (at n key : ℕ) → n ≡ size_at S at → (n ≡ 0 → ⊥) → key ≡ number_at 4 S at → key ≡ big_of (take 4 (drop at S))
unfolding number_at
name_number S at n key size some' e =
    let f = at_fits S at n size some' in
    let a = f.0 in
    let b = f.1 in
    let l : at + 4 ≤ length S = omega arith in
    e ∙ rw (le-leb (at + 4) (length S) l) refl

pub whole_number : (N : List ℕ) (want : ℕ) → length N ≡ 4 → want ≡ number_at 4 N 0 → want ≡ big_of N
unfolding number_at
whole_number N want l e =
    let k : 0 + 4 ≤ length N = omega arith in
    e ∙ rw (le-leb (0 + 4) (length N) k) (ap big_of (take_all 4 N (omega arith)))

-- ---- `value`

module _ (s : List ℕ) (x : Spot) (k : ℕ) (e : k ≡ bytes_for x.bits) where
  pub value_out : length s < x.start + k → [] ≡ shown_at s x
  unfolding shown_at
  value_out h = let l : length s < x.start + bytes_for x.bits = omega arith in rw (lt-leb _ _ l) refl

  pub value_in : x.start + k ≤ length s → (r : List ℕ) → r ≡ drop x.start s → take k r ≡ shown_at s x
  unfolding shown_at
  value_in h r f =
      let l : x.start + bytes_for x.bits ≤ length s = omega arith in
      rw (le-leb _ _ l) (ap₂ take e f)
