-- The loops over a queue's units. Assumes nothing.
use Prim.Native.Nat.{ℕ, zero, suc, ◌+◌, ◌-◌, ◌*◌, ◌/◌, ◌%◌, ◌<◌, ◌≤◌, min}
use mathlib.Core.Path.{◌≡◌, refl, sym, ap, ◌∙◌}
use mathlib.Core.List.{List, [], ◌∷◌, ◌++◌}
use mathlib.Core.Bool.{Bool, true, false, ◌||◌}
use native.Mathlib.Nat.{div-zero, div-add-mod', mul-le-mul_right, div-eq_of_lt-le}
use Rattle.std.proofs.lemmas.Grind.{div_ceil_times}
use native.Mathlib.Numerals.{add-one}
use native.Mathlib.Omega.{arith}
use borrow.Author.Tests.{eq-eqb, ne_eqb, lt-ltb, le-ltb}
use lib.Dec.{eqb}
use lib.ListN.{length, get_or, set, take}
use lib.Seq.{take-suc, take_all}
use Rattle.queue.specs.Queue.{add_up, same, over, packets, units, unsent, any_empty, pushed}
use Rattle.queue.specs.declared.Queue.{Queue}
use Rattle.laws.proofs.Flags.{or_true, or_none}

-- the places that count, where the array has eight
pub used_units : (q : Queue) (n : ℕ) → length q.left ≡ 8 → n ≡ min q.count 8 → take n q.left ≡ units q
used_units q n l e = go (lib.Dec.leb q.count 8) refl
  where
    go : (b : Bool) → lib.Dec.leb q.count 8 ≡ b → take n q.left ≡ units q
    go true f = let c : q.count ≤ 8 = borrow.Author.Tests.leb-true _ _ f in let m : n ≡ q.count = omega arith in ap (λ (j : ℕ). take j q.left) m
    go false f =
        let c : 8 < q.count = borrow.Author.Tests.leb-false _ _ f in
        take_all n q.left (omega arith) ∙ sym (take_all q.count q.left (omega arith))

-- ---- sums
pub add_up_append : (f : ℕ → ℕ) (a b : List ℕ) → add_up f (a ++ b) ≡ add_up f a + add_up f b
unfolding add_up
add_up_append f [] b = omega arith
add_up_append f (x ∷ a) b = omega (arith, add_up_append f a b)

add_up_one : (f : ℕ → ℕ) (x : ℕ) → add_up f (x ∷ []) ≡ f x
unfolding add_up
add_up_one f x = omega arith

add_up_more : (f : ℕ → ℕ) (l : List ℕ) (i : ℕ) → i < length l → add_up f (take (i + 1) l) ≡ add_up f (take i l) + f (get_or l i 0)
add_up_more f l i h = rw (add-one, take-suc l i 0 h, add_up_append, add_up_one)

-- after i of them, each at most 65,535
pub record Summed (f : ℕ → ℕ) (us : List ℕ) (i sum : ℕ) : Type 0 where
  pub is : sum ≡ add_up f (take i us)
  pub bound : sum ≤ i * 65535

pub summed_none : (f : ℕ → ℕ) (us : List ℕ) → Summed f us 0 0
unfolding add_up
summed_none f us = record { is = refl; bound = omega arith }

pub summed_more : (f : ℕ → ℕ) (us : List ℕ) (i sum x y : ℕ) → i < length us → x ≡ get_or us i 0 → y ≡ f x → y ≤ 65535 → Summed f us i sum
    → Summed f us (i + 1) (sum + y)
summed_more f us i sum x y h ex ey k s =
    let e : y ≡ f (get_or us i 0) = ey ∙ ap f ex in
    record { is = let q = s.is in omega (arith, add_up_more f us i h); bound = let q = s.bound in omega arith }

pub summed_all : (f : ℕ → ℕ) (us : List ℕ) (i sum : ℕ) → length us ≤ i → Summed f us i sum → sum ≡ add_up f us
summed_all f us i sum h s = s.is ∙ ap (add_up f) (take_all i us h)

pub summed_bytes : (q : Queue) (n i sum : ℕ) → length q.left ≡ 8 → n ≡ min q.count 8 → length (take n q.left) ≤ i → Summed same (take n q.left) i sum
    → sum ≡ unsent q
unfolding unsent
summed_bytes q n i sum l e h s = summed_all same (take n q.left) i sum h s ∙ ap (add_up same) (used_units q n l e)

-- ---- the packets of a unit
pub packets_none : (p x : ℕ) → p ≡ 0 → 0 ≡ packets p x
unfolding packets
packets_none p x e = rw e (sym (div-zero (x + (0 - 1))))

-- rounded up as the library's div_ceil is
rounded : (w x : ℕ) → (w ≡ 0 → ⊥) → (x + (w - 1)) / w ≡ x / w + min 1 (x % w)
rounded w x h =
    let t = div_ceil_times x w (omega arith) in
    let k = x / w + min 1 (x % w) in
    let m : (k + 1) * w ≡ k * w + w = omega arith in
    div-eq_of_lt-le w (omega arith) (omega arith)

pub packets_is : (p w x r : ℕ) → w ≡ p → (p ≡ 0 → ⊥) → r ≡ x / w + min 1 (x % w) → r ≡ packets p x
unfolding packets
packets_is p w x r e h d = d ∙ sym (rounded w x (omega arith)) ∙ ap (over x) e

-- no more than the bytes
pub over_bytes : (w x : ℕ) → 1 ≤ w → (x + (w - 1)) / w ≤ x
over_bytes w x h = go ((x + (w - 1)) / w) refl
  where
    go : (k : ℕ) → (x + (w - 1)) / w ≡ k → (x + (w - 1)) / w ≤ x
    go zero e = omega arith
    go (suc k) e =
        let d : suc k * w + (x + (w - 1)) % w ≡ x + (w - 1) = ap (λ (q : ℕ). q * w + (x + (w - 1)) % w) (sym e) ∙ div-add-mod' (x + (w - 1)) w in
        let m : suc k * w ≡ k * w + w = omega arith in
        omega (arith, mul-le-mul_right k h)

pub packets_fit : (w x r : ℕ) → (w ≡ 0 → ⊥) → r ≡ x / w + min 1 (x % w) → r ≤ x
packets_fit w x r h d = omega (arith, over_bytes w x (omega arith), rounded w x h)

-- ---- a unit with no byte left
empty_append : (a b : List ℕ) → any_empty (a ++ b) ≡ any_empty a || any_empty b
unfolding any_empty
empty_append [] b = refl
empty_append (x ∷ a) b = go (eqb x 0) (empty_append a b)
  where
    go : (t : Bool) → any_empty (a ++ b) ≡ any_empty a || any_empty b → t || any_empty (a ++ b) ≡ t || any_empty a || any_empty b
    go true e = refl
    go false e = e

-- one more of them
empty_more : (l : List ℕ) (i : ℕ) (b : Bool) → i < length l → eqb (get_or l i 0) 0 ≡ b → any_empty (take (suc i) l) ≡ any_empty (take i l) || b
unfolding any_empty
empty_more l i b h e =
    ap any_empty (take-suc l i 0 h) ∙ empty_append (take i l) (get_or l i 0 ∷ []) ∙ ap (λ (t : Bool). any_empty (take i l) || t) (or_none (eqb (get_or l i 0) 0) ∙ e)

found_stays : (us : List ℕ) (i : ℕ) → i < length us → get_or us i 0 ≡ 0 → any_empty us ≡ true
unfolding any_empty
found_stays [] i k e = absurd (omega arith)
found_stays (x ∷ us) zero k e = simp (eq-eqb _ _ e)
found_stays (x ∷ us) (suc i) k e = ap (λ (b : Bool). eqb x 0 || b) (found_stays us i (omega arith) e) ∙ or_true (eqb x 0)

-- none among the first i
abbrev pub Sought : List ℕ → ℕ → Type 0
Sought us i = any_empty (take i us) ≡ false

pub sought_none : (us : List ℕ) → Sought us 0
unfolding any_empty
sought_none us = refl

pub sought_more : (us : List ℕ) (i : ℕ) → i < length us → (get_or us i 0 ≡ 0 → ⊥) → Sought us i → Sought us (i + 1)
sought_more us i h e s = rw add-one (empty_more us i false h (ne_eqb (get_or us i 0) 0 e) ∙ ap (λ (b : Bool). b || false) s)

pub sought_found : (us : List ℕ) (i : ℕ) → i < length us → get_or us i 0 ≡ 0 → true ≡ any_empty us
sought_found us i h z = sym (found_stays us i h z)

pub sought_all : (us : List ℕ) (i : ℕ) → length us ≤ i → Sought us i → false ≡ any_empty us
sought_all us i h s = sym s ∙ ap any_empty (take_all i us h)

-- ---- a unit more
module _ (q : Queue) (n : ℕ) where
  pub push_full : 8 ≤ q.count → q ≡ pushed q n
  unfolding pushed
  push_full h = simp (le-ltb _ _ h)

  pub push_room : q.count < 8 → ◌≡◌ {A = Queue} (record { left = set q.left q.count n; count = q.count + 1; sent = q.sent }) (pushed q n)
  unfolding pushed
  push_room h = simp (lt-ltb _ _ h)
