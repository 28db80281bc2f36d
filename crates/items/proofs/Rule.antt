-- The rule of the items: a whole item at the front and then the items of the rest, or none. Assumes nothing.
use mathlib.Core.Path.{◌≡◌, refl, ap, ap₂, ◌∙◌}
use mathlib.Core.Bool.{Bool, true, false}
use mathlib.Core.List.{List, [], ◌∷◌}
use Prim.Native.Nat.{ℕ, zero, suc, ◌+◌, ◌≤◌, ◌<◌}
use native.Mathlib.Omega.{arith}
use borrow.Author.Tests.{le-leb, lt-leb, leb-true, leb-false}
use lib.Dec.{leb}
use lib.ListN.{length, drop, length-drop}
use lib.Seq.{drop-drop}
use Rattle.laws.specs.Pick.{pick}
use Rattle.items.specs.Items.{bytes_for, bits_at, size_of, item_at, no_item, item_then, cut_after, cut_from, size_at}

-- bytes of an item are passed over
cut_skip : (k : ℕ) (s : List ℕ) (at : ℕ) → k ≤ length s → cut_after k s at ≡ cut_after 0 (drop k s) (at + k)
unfolding cut_after
cut_skip zero s at h = let e : at ≡ at + 0 = omega arith in ap (cut_after 0 s) e
cut_skip (suc k) [] at h = absurd (omega arith)
cut_skip (suc k) (x ∷ s) at h =
    let e : at + 1 + k ≡ at + suc k = omega arith in cut_skip k s (at + 1) (omega arith) ∙ ap (cut_after 0 (drop k s)) e

-- THE RULE: a whole item at the front, and then the items of the rest
pub cut_item : (s : List ℕ) (at : ℕ) → size_of s ≤ length s → cut_from s at ≡ item_then (item_at s at) (cut_from (drop (size_of s) s) (at + size_of s))
unfolding cut_from cut_after size_of
cut_item [] at h = absurd (omega arith)
cut_item (x ∷ s) at h =
    let k = 7 + bytes_for (bits_at (x ∷ s)) in
    let e : at + 1 + k ≡ at + (8 + bytes_for (bits_at (x ∷ s))) = omega arith in
    let q : suc k ≡ 8 + bytes_for (bits_at (x ∷ s)) = omega arith in
    let d : drop k s ≡ drop (8 + bytes_for (bits_at (x ∷ s))) (x ∷ s) = ap (λ (n : ℕ). drop n (x ∷ s)) q in
    let l : 8 + bytes_for (bits_at (x ∷ s)) ≤ length (x ∷ s) = h in
    rw (le-leb (8 + bytes_for (bits_at (x ∷ s))) (length (x ∷ s)) l)
    (ap (item_then (item_at (x ∷ s) at)) (cut_skip k s (at + 1) (omega arith) ∙ ap₂ (cut_after 0) d e))

-- no whole item at the front: here the items stop
pub cut_none : (s : List ℕ) (at : ℕ) → length s < size_of s → cut_from s at ≡ no_item at
unfolding cut_from cut_after
cut_none [] at h = refl
cut_none (x ∷ s) at h = rw (lt-leb (size_of (x ∷ s)) (length (x ∷ s)) h) refl

pub size_pos : (s : List ℕ) → 8 ≤ size_of s
unfolding size_of
size_pos s = omega arith

-- ---- at an offset of a packet: n is what `size_at` answers

module _ (S : List ℕ) (at n : ℕ) (size : n ≡ size_at S at) where
  go_none : (b : Bool) → leb (size_of (drop at S)) (length (drop at S)) ≡ b → n ≡ pick b (size_of (drop at S)) 0 → n ≡ 0 → cut_from (drop at S) at ≡ no_item at
  go_none true e f z = absurd (omega (arith, size_pos (drop at S)))
  go_none false e f z = cut_none (drop at S) at (leb-false _ _ e)

  pub at_none : n ≡ 0 → cut_from (drop at S) at ≡ no_item at
  unfolding size_at
  at_none z = go_none (leb (size_of (drop at S)) (length (drop at S))) refl size z

  go_size : (b : Bool) → leb (size_of (drop at S)) (length (drop at S)) ≡ b → n ≡ pick b (size_of (drop at S)) 0 → (n ≡ 0 → ⊥) → (n ≡ size_of (drop at S)) × (size_of (drop at S) ≤ length (drop at S))
  go_size true e f z = (f, leb-true _ _ e)
  go_size false e f z = absurd (z f)

  module _ (some : n ≡ 0 → ⊥) where
    pub whole : (n ≡ size_of (drop at S)) × (size_of (drop at S) ≤ length (drop at S))
    unfolding size_at
    whole = go_size (leb (size_of (drop at S)) (length (drop at S))) refl size some

    pub at_fits : (8 ≤ n) × (at + n ≤ length S)
    at_fits = let p = size_pos (drop at S) in (omega (arith, whole.0), omega (arith, whole.0, whole.1, length-drop at S))

    pub at_item : cut_from (drop at S) at ≡ item_then (item_at (drop at S) at) (cut_from (drop (at + n) S) (at + n))
    at_item = rw (whole.0, ← drop-drop) (cut_item (drop at S) at whole.1)
