-- A queue without faults stays so where a unit is accepted; one with no unit has none. Assumes nothing.
use Prim.Native.Nat.{ℕ, zero, suc, ◌+◌, ◌<◌, ◌≤◌}
use mathlib.Core.Path.{◌≡◌, refl, sym, ap, ◌∙◌, subst}
use mathlib.Core.List.{List, [], ◌∷◌, ◌++◌}
use native.Mathlib.Nat.{zero-mod}
use native.Mathlib.Numerals.{add-one}
use native.Mathlib.Omega.{arith}
use mathlib.Core.Bool.{Bool, true, false}
use borrow.Author.Tests.{lt-ltb}
use lib.Dec.{ltb}
use Rattle.laws.specs.Pick.{pick}
use lib.ListN.{length, get_or, set, take, length-set}
use lib.Seq.{take-suc-set}
use Rattle.queue.specs.Queue.{add_up, same, units, unsent, no_units, pushed}
use Rattle.queue.specs.Send.{AllPos}
use Rattle.queue.specs.declared.Queue.{Queue}
use Rattle.queue.proofs.Faults.{Sound}

pub none_sound : (p : ℕ) → Sound p no_units
unfolding unsent add_up
none_sound p =
    record { eight = refl; count = omega arith; pos = tt; bytes = omega arith; whole = zero-mod p; empty = λ z. refl; first = λ h. absurd (omega arith) }

-- an accepted unit keeps the queue sound
units_push : (l : List ℕ) (c n : ℕ) → c < length l → take (c + 1) (set l c n) ≡ take c l ++ (n ∷ [])
units_push l c n h = rw add-one (take-suc-set l c n h)

add_up_snoc : (xs : List ℕ) (n : ℕ) → add_up same (xs ++ (n ∷ [])) ≡ add_up same xs + n
unfolding add_up
add_up_snoc [] n = omega arith
add_up_snoc (x ∷ xs) n = omega (arith, add_up_snoc xs n)

pos_snoc : (xs : List ℕ) (n : ℕ) → AllPos xs → 1 ≤ n → AllPos (xs ++ (n ∷ []))
pos_snoc [] n a h = (h, tt)
pos_snoc (x ∷ xs) n a h = (a.0, pos_snoc xs n a.1 h)

push_first : (l : List ℕ) (c n t : ℕ) → n ≤ 4096 → (c ≡ 0 → t ≡ 0) → (1 ≤ c → get_or l 0 0 + t ≤ 4096) → get_or (set l c n) 0 0 + t ≤ 4096
push_first [] zero n t h e f = omega (arith, e refl)
push_first [] (suc c) n t h e f = f (omega arith)
push_first (x ∷ l) zero n t h e f = omega (arith, e refl)
push_first (x ∷ l) (suc c) n t h e f = f (omega arith)

-- an accepted unit stands behind the others
pub pushed_units : (q : Queue) (n : ℕ) → length q.left ≡ 8 → q.count < 8 → units (pushed q n) ≡ units q ++ (n ∷ [])
unfolding pushed
pushed_units q n l8 h = rw (lt-ltb q.count 8 h) (units_push q.left q.count n (omega arith))

pub sound_push : (p : ℕ) (q : Queue) (n : ℕ) → Sound p q → 1 ≤ n → q.count < 8 → n + unsent q ≤ 4096 → Sound p (pushed q n)
unfolding pushed unsent
sound_push p q n s h1 h8 hf =
    let u : take (q.count + 1) (set q.left q.count n) ≡ units q ++ (n ∷ []) = units_push q.left q.count n (omega (arith, s.eight)) in
    let b : add_up same (take (q.count + 1) (set q.left q.count n)) ≡ add_up same (units q) + n = ap (add_up same) u ∙ add_up_snoc (units q) n in
    rw (lt-ltb q.count 8 h8)
    (record {
      eight = length-set q.left q.count n ∙ s.eight;
      count = omega arith;
      pos = subst AllPos (sym u) (pos_snoc (units q) n s.pos h1);
      bytes = omega arith;
      whole = s.whole;
      empty = λ z. absurd (omega arith);
      first = λ k. push_first q.left q.count n q.sent (omega arith) s.empty s.first;
    })

-- sent bytes are not touched by it
pub pushed_sent : (q : Queue) (n : ℕ) → (pushed q n).sent ≡ q.sent
unfolding pushed
pushed_sent q n = go (ltb q.count 8)
  where
    go : (b : Bool) → (pick b (record { left = set q.left q.count n; count = q.count + 1; sent = q.sent }) q).sent ≡ q.sent
    go true = refl
    go false = refl
