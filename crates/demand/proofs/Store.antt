-- Parts of 4,096 bytes of a store: one is written to, the others stay. Assumes nothing.
use Prim.Native.Nat.{ℕ, ◌+◌, ◌-◌, ◌*◌, ◌<◌, ◌≤◌}
use mathlib.Core.Path.{◌≡◌, refl, sym, ap, ap₂, ◌∙◌}
use mathlib.Core.List.{List, [], ◌∷◌, ◌++◌, append_assoc}
use mathlib.Core.Bool.{Bool, true, false}
use native.Mathlib.Omega.{arith}
use borrow.Author.Tests.{leb-true, leb-false}
use lib.Dec.{leb}
use lib.ListN.{length, take, drop, length-append, length-drop, take-append-drop}
use lib.Seq.{take-take, drop-drop, take-add, take-append-le, drop-append-le, take_at, drop_at, length-take-le}
use Rattle.laws.specs.Part.{part_of}
use Rattle.laws.specs.Written.{written}
use Rattle.laws.proofs.Written.{written_length}
use Rattle.queue.specs.Queue.{add_up, same}
use Rattle.row.specs.Content.{cut}
use Rattle.demand.proofs.Content.{take_drop}

-- the part at b replaced
abbrev put : List ℕ → ℕ → List ℕ → List ℕ
put s b mid = take b s ++ (mid ++ drop 4096 (drop b s))

module _ (s mid : List ℕ) (id : ℕ) (h : id * 4096 + 4096 ≤ length s) (m : length mid ≡ 4096) where
  lb : length (take (id * 4096) s) ≡ id * 4096
  lb = length-take-le (id * 4096) s (omega arith)

  part_same : part_of (put s (id * 4096) mid) id ≡ mid
  part_same = ap (take 4096) (drop_at (take (id * 4096) s) (mid ++ drop 4096 (drop (id * 4096) s)) (id * 4096) lb) ∙ take_at mid _ 4096 m

  below : (j : ℕ) → j < id → part_of (put s (id * 4096) mid) j ≡ part_of s j
  below j l =
      let b = id * 4096 in
      let a = j * 4096 in
      let k : a + (b - a) ≡ b = omega arith in
      let x = mid ++ drop 4096 (drop b s) in
      ap (take 4096) (drop-append-le a (take b s) x (omega (arith, lb)))
      ∙ take-append-le 4096 (drop a (take b s)) x (omega (arith, lb, length-drop a (take b s)))
      ∙ ap (λ (n : ℕ). take 4096 (drop a (take n s))) (sym k)
      ∙ ap (take 4096) (sym (take_drop (b - a) a s (omega arith)))
      ∙ take-take 4096 (b - a) (drop a s) (omega arith)

  above : (j : ℕ) → id < j → part_of (put s (id * 4096) mid) j ≡ part_of s j
  above j l =
      let b = id * 4096 in
      let c = j * 4096 - (b + 4096) in
      let k : j * 4096 ≡ (b + 4096) + c = omega arith in
      let f = take b s ++ mid in
      let lf : length f ≡ b + 4096 = length-append (take b s) mid ∙ omega (arith, lb) in
      ap (λ (x : List ℕ). take 4096 (drop (j * 4096) x)) (sym (append_assoc (take b s) mid (drop 4096 (drop b s))))
      ∙ ap (λ (n : ℕ). take 4096 (drop n (f ++ drop 4096 (drop b s)))) k
      ∙ ap (take 4096) (sym (drop-drop c (b + 4096) (f ++ drop 4096 (drop b s))) ∙ ap (drop c) (drop_at f (drop 4096 (drop b s)) (b + 4096) lf ∙ drop-drop 4096 b s) ∙ drop-drop c (b + 4096) s)
      ∙ ap (λ (n : ℕ). take 4096 (drop n s)) (sym k)

  part_other : (j : ℕ) → (j ≡ id → ⊥) → part_of (put s (id * 4096) mid) j ≡ part_of s j
  part_other j e = go (leb j id) refl
    where
      go : (t : Bool) → leb j id ≡ t → part_of (put s (id * 4096) mid) j ≡ part_of s j
      go true f = let l : j ≤ id = leb-true _ _ f in below j (omega arith)
      go false f = above j (leb-false _ _ f)

-- bytes written into a part
written_part : (s : List ℕ) (b u : ℕ) (t : List ℕ) → b + 4096 ≤ length s → u + length t ≤ 4096 → written s (b + u) t ≡ put s b (written (take 4096 (drop b s)) u t)
unfolding written
written_part s b u t h l =
    let n = length t in
    let r = drop b s in
    let q = take 4096 r in
    let lq : length q ≡ 4096 = length-take-le 4096 r (omega (arith, length-drop b s)) in
    let x : take (b + u) s ≡ take b s ++ take u q = take-add b u s ∙ ap (λ (z : List ℕ). take b s ++ z) (sym (take-take u 4096 r (omega arith))) in
    let e : drop (u + n) q ++ drop 4096 r ≡ drop (u + n) r = sym (drop-append-le (u + n) q (drop 4096 r) (omega arith)) ∙ ap (drop (u + n)) (take-append-drop 4096 r) in
    let k : b + u + n ≡ b + (u + n) = omega arith in
    let y : drop (b + u + n) s ≡ drop (u + n) q ++ drop 4096 r = ap (λ (z : ℕ). drop z s) k ∙ sym (drop-drop (u + n) b s) ∙ sym e in
    ap₂ (λ (z v : List ℕ). z ++ (t ++ v)) x y
    ∙ regroup (take b s) (take u q) t (drop (u + n) q) (drop 4096 r)
  where
    regroup : (a b c d e : List ℕ) → (a ++ b) ++ (c ++ (d ++ e)) ≡ a ++ ((b ++ (c ++ d)) ++ e)
    regroup a b c d e = simp append_assoc

module _ (s : List ℕ) (id u : ℕ) (t : List ℕ) (h : id * 4096 + 4096 ≤ length s) (l : u + length t ≤ 4096) where
  part_full : length (part_of s id) ≡ 4096
  part_full = length-take-le 4096 (drop (id * 4096) s) (omega (arith, length-drop (id * 4096) s))

  mid_full : length (written (part_of s id) u t) ≡ 4096
  mid_full = let p = part_full in written_length (part_of s id) u t (omega arith) ∙ part_full

  -- the part that is written to, and every other
  pub written_own : part_of (written s (id * 4096 + u) t) id ≡ written (part_of s id) u t
  written_own = ap (λ (x : List ℕ). part_of x id) (written_part s (id * 4096) u t h l) ∙ part_same s (written (part_of s id) u t) id h mid_full

  pub written_other : (j : ℕ) → (j ≡ id → ⊥) → part_of (written s (id * 4096 + u) t) j ≡ part_of s j
  written_other j e = ap (λ (x : List ℕ). part_of x j) (written_part s (id * 4096) u t h l) ∙ part_other s (written (part_of s id) u t) id h mid_full j e

-- ---- pieces of known lengths
pub cut_front : (xs a t : List ℕ) → add_up same xs ≤ length a → cut xs (a ++ t) ≡ cut xs a
unfolding cut add_up
cut_front [] a t h = refl
cut_front (x ∷ xs) a t h =
    ap₂ (λ (u : List ℕ) (us : List (List ℕ)). u ∷ us) (take-append-le x a t (omega arith))
    (ap (cut xs) (drop-append-le x a t (omega arith)) ∙ cut_front xs (drop x a) t (omega (arith, length-drop x a)))

pub cut_more : (xs s : List ℕ) (x : ℕ) → cut (xs ++ (x ∷ [])) s ≡ cut xs s ++ (take x (drop (add_up same xs) s) ∷ [])
unfolding cut add_up
cut_more [] s x = refl
cut_more (y ∷ xs) s x = ap (λ (us : List (List ℕ)). take y s ∷ us) (cut_more xs (drop y s) x ∙ ap (λ (z : List ℕ). cut xs (drop y s) ++ (take x z ∷ [])) (drop-drop (add_up same xs) y s))

-- what stood further back, now at the front
pub cut_front_written : (xs q f : List ℕ) → add_up same xs ≤ length f → cut xs (written q 0 f) ≡ cut xs f
unfolding written
cut_front_written xs q f h = cut_front xs f (drop (0 + length f) q) h

-- a unit behind the others
pub cut_loaded : (xs q unit : List ℕ) (u : ℕ) → add_up same xs ≡ u → u + length unit ≤ length q
    → cut (xs ++ (length unit ∷ [])) (written q u unit) ≡ cut xs q ++ (unit ∷ [])
unfolding written
cut_loaded xs q unit u e h =
    let n = length unit in
    let f = take u q in
    let z = drop (u + n) q in
    let lf : length f ≡ u = length-take-le u q (omega arith) in
    cut_more xs (f ++ (unit ++ z)) n
    ∙ ap₂ (λ (a : List (List ℕ)) (b : List ℕ). a ++ (b ∷ []))
    (cut_front xs f (unit ++ z) (omega arith) ∙ sym (cut_front xs f (drop u q) (omega arith)) ∙ ap (cut xs) (take-append-drop u q))
    (ap (λ (k : ℕ). take n (drop k (f ++ (unit ++ z)))) e ∙ ap (take n) (drop_at f (unit ++ z) u lf) ∙ take_at unit z n refl)
