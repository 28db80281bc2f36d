-- What the readers answer, and the tests that they share with the writers, by the way taken through them. Assumes nothing.
use mathlib.Core.Path.{◌≡◌, refl, ◌∙◌}
use mathlib.Core.Bool.{Bool, true, false, not, ◌||◌}
use mathlib.Core.List.{List, [], ◌∷◌}
use Prim.Native.Nat.{ℕ, ◌≤◌, ◌<◌, ◌-◌, ◌*◌, ◌/◌}
use native.Mathlib.Omega.{arith}
use borrow.Author.Tests.{lt-ltb, le-ltb, ne_eqb}
use lib.Dec.{ltb, eqb}
use lib.ListN.{length, drop, length-drop}
use lib.Seq.{take_all}
use Rattle.std.specs.Prelude.{Result, Ok, Err, IfOk, Option, Some, None}
use Rattle.std.specs.Option.{unwrap_or}
use Rattle.std.specs.Slice.{IsGetRangeResult}
use denote.Bor.{Bor}
use mathlib.Core.Logic.{⊎_elim}
use Rattle.refusal.specs.declared.Refusal.{Refusal}
use Rattle.refusal.specs.Refusal.{number_of, number_in}
use Rattle.refusal.proofs.Numbers.{number_ne0}
use Rattle.laws.specs.Limits.{longest}
use Rattle.laws.specs.Refuse.{refused_with}
use Rattle.description.specs.declared.Description.{Description}
use Rattle.description.specs.Bytes.{nothing, described_by}
use Rattle.description.specs.WellFormed.{is_too_large, ill_formed}
use Rattle.description.specs.Answers.{value_length, unserved, reading_tests, read_tests, described_in, read_for, length_in, version_in, type_in, wrong_head, read_entity_tests, read_entity_for, handed}

module _ (long head : Bool) (v : List ℕ) (mode : ℕ) where
  pub read_1 : long ≡ true → 1 ≡ refused_with (reading_tests long head v mode)
  unfolding reading_tests
  read_1 e = rw e

  module _ (l : long ≡ false) (b : Bool) (e : b ≡ value_length (length v)) where
    pub read_5 : not b ≡ true → 5 ≡ refused_with (reading_tests long head v mode)
    unfolding reading_tests
    read_5 h = rw (l, ← e, h)

    module _ (k : not b ≡ false) where
      pub read_6 : 3 < mode → 6 ≡ refused_with (reading_tests long head v mode)
      unfolding reading_tests
      read_6 h = rw (l, ← e, k, lt-ltb _ _ h)

      module _ (m : mode ≤ 3) (u : Bool) (f : u ≡ unserved mode) where
        pub read_9 : u ≡ true → 9 ≡ refused_with (reading_tests long head v mode)
        unfolding reading_tests
        read_9 h = rw (l, ← e, k, le-ltb _ _ m, ← f, h)

        module _ (s : u ≡ false) (d : Description) (g : d ≡ described_by v) (i : Bool) (j : i ≡ ill_formed mode d) where
          pub read_10 : (head || i) ≡ true → 10 ≡ refused_with (reading_tests long head v mode)
          unfolding reading_tests
          read_10 h = rw (l, ← e, k, le-ltb _ _ m, ← f, s, ← g, ← j, h)

          pub read_0 : (head || i) ≡ false → 0 ≡ refused_with (reading_tests long head v mode)
          unfolding reading_tests
          read_0 h = rw (l, ← e, k, le-ltb _ _ m, ← f, s, ← g, ← j, h)

pub ruleset reading = (read_1, read_5, read_6, read_9, read_10, read_0)

module _ (large : Bool) (d : Description) (mode : ℕ) (t : Bool) (e : t ≡ is_too_large d) where
  pub handed_6 : (large || t || ltb 3 mode) ≡ true → 6 ≡ refused_with (handed large d mode [])
  unfolding handed
  handed_6 h = rw (← e, h)

  module _ (k : (large || t || ltb 3 mode) ≡ false) (u : Bool) (f : u ≡ unserved mode) where
    pub handed_9 : u ≡ true → 9 ≡ refused_with (handed large d mode [])
    unfolding handed
    handed_9 h = rw (← e, k, ← f, h)

    module _ (s : u ≡ false) (i : Bool) (j : i ≡ ill_formed mode d) where
      pub handed_10 : i ≡ true → 10 ≡ refused_with (handed large d mode [])
      unfolding handed
      handed_10 h = rw (← e, k, ← f, s, ← j, h)

      pub handed_0 : i ≡ false → 0 ≡ refused_with (handed large d mode [])
      unfolding handed
      handed_0 h = rw (← e, k, ← f, s, ← j, h)

pub ruleset handing = (handed_6, handed_9, handed_10, handed_0)

pub read_told : (v : List ℕ) (mode : ℕ) (r : Result Description Refusal)
    → number_in r ≡ refused_with (reading_tests (ltb longest (length v)) false v mode) → IfOk r (λ d. d ≡ described_by v)
    → described_in r ≡ read_for v mode
unfolding read_for read_tests
read_told v mode (Ok d) e h = rw (← e, h) refl
read_told v mode (Err r) e h = rw (← e, ne_eqb (number_of r) 0 (number_ne0 r)) refl

-- an entity
pub rest_is : (s : List ℕ) (o : Option (Bor (List ℕ))) (none : Bor (List ℕ)) → none.now ≡ [] → IsGetRangeResult s 1 (length s) o
    → (unwrap_or o none).now ≡ drop 1 s
rest_is s (Some r) none e h = h.0.2 ∙ take_all (length s - 1) (drop 1 s) (simp length-drop (omega arith))
rest_is [] None none e h = e
rest_is (x ∷ s) None none e h = absurd (⊎_elim (λ k. omega arith) (λ k. omega arith) h.0)

pub head_is : (s v : List ℕ) (l t : ℕ) → v ≡ drop 1 s → l ≡ length_in s → t ≡ type_in v
    → (not (eqb l (3 * (length v / 3))) || not (eqb t 0)) ≡ wrong_head s
unfolding wrong_head
head_is s v l t e f g = rw (g, f, e)

module _ (s v : List ℕ) (mode : ℕ) (w : Bool) (h : w ≡ wrong_head s) (p : v ≡ drop 1 s) where
  pub entity_refused : (r : Refusal) → number_of r ≡ refused_with (reading_tests (ltb longest (length s)) w v mode)
      → record { number = number_of r; version = 0; description = nothing } ≡ read_entity_for s mode
  unfolding read_entity_for read_entity_tests
  entity_refused r e = rw (← p, ← h, ← e, ne_eqb (number_of r) 0 (number_ne0 r)) refl

  pub entity_done : 0 ≡ refused_with (reading_tests (ltb longest (length s)) w v mode) → (x : ℕ) (d : Description)
      → x ≡ version_in s → d ≡ described_by v → record { number = 0; version = x; description = d } ≡ read_entity_for s mode
  unfolding read_entity_for read_entity_tests
  entity_done e x d y k = rw (← p, ← h, ← e, y, k)
