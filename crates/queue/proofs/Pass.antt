-- One pass over a queue's units: none of the first i is empty, and their bytes, or bytes and packets, are added up. Assumes nothing.
use Prim.Native.Nat.{ℕ, ◌+◌, ◌<◌, ◌≤◌}
use mathlib.Core.Path.{◌≡◌, refl, sym, ◌∙◌}
use mathlib.Core.List.{List}
use mathlib.Core.Bool.{Bool, true, false}
use native.Mathlib.Omega.{arith}
use borrow.Author.Tests.{eq-eqb, ne_eqb}
use lib.ListN.{length, get_or}
use Rattle.laws.proofs.Flags.{or_true, or_none}
use Rattle.queue.specs.Queue.{same, packets, units, unsent, waits, waiting, any_empty, broken}
use Rattle.queue.specs.Stored.{miscounts, wrong}
use Rattle.queue.specs.declared.Queue.{Queue}
use Rattle.queue.proofs.Sums.{Summed, summed_none, summed_more, summed_all, Sought, sought_none, sought_more, sought_found, sought_all}
use Rattle.queue.proofs.Faults.{broken_count, broken_empty}

-- ---- the units and their bytes
pub record Pass (us : List ℕ) (i bytes : ℕ) : Type 0 where
  pub none : Sought us i
  pub bytes_are : Summed same us i bytes

pub pass_none : (us : List ℕ) → Pass us 0 0
pass_none us = record { none = sought_none us; bytes_are = summed_none same us }

pub pass_more : (us : List ℕ) (i bytes x : ℕ) → i < length us → x ≡ get_or us i 0 → x ≤ 65535 → (get_or us i 0 ≡ 0 → ⊥) → Pass us i bytes
    → Pass us (i + 1) (bytes + x)
pass_more us i bytes x h ex hx hz k =
    record { none = sought_more us i h hz k.none; bytes_are = summed_more same us i bytes x x h ex refl hx k.bytes_are }

-- ---- and their packets
pub record Counted (p : ℕ) (us : List ℕ) (i bytes sum : ℕ) : Type 0 where
  pub pass : Pass us i bytes
  pub sum_is : Summed (packets p) us i sum

pub counted_none : (p : ℕ) (us : List ℕ) → Counted p us 0 0 0
counted_none p us = record { pass = pass_none us; sum_is = summed_none (packets p) us }

pub counted_more : (p : ℕ) (us : List ℕ) (i bytes sum x y : ℕ) → i < length us → x ≡ get_or us i 0 → x ≤ 65535 → (get_or us i 0 ≡ 0 → ⊥) → y ≡ packets p x
    → y ≤ x → Counted p us i bytes sum → Counted p us (i + 1) (bytes + x) (sum + y)
counted_more p us i bytes sum x y h ex hx hz ey hy k =
    record {
      pass = pass_more us i bytes x h ex hx hz k.pass;
      sum_is = summed_more (packets p) us i sum x y h ex ey (omega arith) k.sum_is;
    }

-- ---- what is answered within it, and what it found
module _ (p : ℕ) (q : Queue) where
  pub pass_empty : (i : ℕ) → i < length (units q) → get_or (units q) i 0 ≡ 0 → true ≡ broken p q
  pass_empty i k z = broken_empty p q true (sought_found (units q) i k z) refl

  module _ (i bytes : ℕ) (over : length (units q) ≤ i) where
    module _ (k : Pass (units q) i bytes) where
      pub pass_some : any_empty (units q) ≡ false
      pass_some = sym (sought_all (units q) i over k.none)

      pub pass_bytes : bytes ≡ unsent q
      unfolding unsent
      pass_bytes = summed_all same (units q) i bytes over k.bytes_are

    module _ (sum : ℕ) (k : Counted p (units q) i bytes sum) where
      pub counted_some : any_empty (units q) ≡ false
      counted_some = pass_some k.pass

      pub counted_bytes : bytes ≡ unsent q
      counted_bytes = pass_bytes k.pass

      sum_here : sum ≡ waiting p q
      unfolding waiting waits
      sum_here = summed_all (packets p) (units q) i sum over k.sum_is

      module _ (stored c : ℕ) (ec : c ≡ stored) where
        pub wrong_sum : (c ≡ sum → ⊥) → true ≡ wrong p q stored
        unfolding wrong miscounts
        wrong_sum d = simp (ne_eqb stored (waiting p q) (λ z. d (ec ∙ z ∙ sym sum_here)), or_true)

        pub wrong_is : c ≡ sum → (b : Bool) → b ≡ broken p q → b ≡ wrong p q stored
        unfolding wrong miscounts
        wrong_is es b e = simp (eq-eqb stored (waiting p q) (sym ec ∙ es ∙ sum_here), ← e) (sym (or_none b))

-- ---- a fault of the queue is one of the two
wrong_if : (p : ℕ) (q : Queue) (stored : ℕ) → true ≡ broken p q → true ≡ wrong p q stored
unfolding wrong
wrong_if p q stored e = simp (← e)

module _ (p : ℕ) (q : Queue) (stored : ℕ) where
  pub wrong_count_law : 8 < q.count → true ≡ wrong p q stored
  wrong_count_law h = wrong_if p q stored (broken_count p q h)

  pub wrong_empty : (i : ℕ) → i < length (units q) → get_or (units q) i 0 ≡ 0 → true ≡ wrong p q stored
  wrong_empty i k z = wrong_if p q stored (pass_empty p q i k z)
