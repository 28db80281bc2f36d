-- The ways through the code, in its own words. Assumes nothing.
use Rattle.std.proofs.Common.{◌≡◌, ℕ, ◌+◌, ◌%◌, ◌^◌, Bool, true, false, eqb, sym, refl, ◌∙◌, lit<, ne_eqb, eq-eqb}
use Rattle.std.specs.Prelude.{Option, None, Some, MatchOption}
use Rattle.laws.specs.Refuse.{refused_with, Free}
use Rattle.laws.proofs.Join.{before, behind}
use Rattle.laws.proofs.Refuse.{free}
use Rattle.clock.specs.declared.Stamp.{Stamp}
use Rattle.clock.specs.Follows as stamps
use Rattle.clock.specs.Stamps.{field_tests}
use Rattle.record.specs.declared.Record.{Record}
use Rattle.record.specs.Succession.{count_follows, stamp_before, times_follow, time_tests, tests_for, follows_for}

pub tests_none : (t : Option Stamp) → t ≡ None → 0 ≡ refused_with (time_tests t)
unfolding time_tests
tests_none t e = rw e refl

pub tests_given : (t : Option Stamp) (a : Stamp) (n : ℕ) → t ≡ Some a → n ≡ refused_with (field_tests a) → n ≡ refused_with (time_tests t)
unfolding time_tests
tests_given t a n e h = rw e h

-- what is asked of a timestamp alone holds where there is none
module _ (t : Option Stamp) (P : Stamp → Type 0) (r : Bool) (m : MatchOption t (r ≡ true) P) where
  pub before_by : (a : Stamp) → ((b : Stamp) → P b → r ≡ (stamps.follows_for a b).yes) → r ≡ stamp_before a t
  unfolding stamp_before
  before_by a f = elim t as (λ o. MatchOption o (r ≡ true) P → r ≡ stamp_before a o) [ None ↦ λ e. e | Some b ↦ λ e. f b e ] m

  pub follow_by : (u : Option Stamp) → ((a : Stamp) → P a → r ≡ stamp_before a u) → r ≡ times_follow t u
  unfolding times_follow
  follow_by u f = elim t as (λ o. MatchOption o (r ≡ true) P → r ≡ times_follow o u) [ None ↦ λ e. e | Some a ↦ λ e. f a e ] m

-- a timestamp with a field too large is refused with 6, so no number of these tests is 0
pub free_time : (t : Option Stamp) → refused_with (time_tests t) ≡ 0 → Free (time_tests t)
unfolding time_tests field_tests
free_time None e = tt
free_time (Some a) e = free (field_tests a) (lit< tt, (lit< tt, (lit< tt, tt))) e

module _ (a b : Record) where
  pub follows_first : (n : ℕ) → n ≡ refused_with (time_tests a.time) → (n ≡ 0 → ⊥) → record { number = n; yes = false } ≡ follows_for a b
  unfolding tests_for follows_for
  follows_first n e h =
      let k : refused_with (tests_for a b) ≡ n = before (time_tests a.time) _ (λ z. h (e ∙ z)) ∙ sym e in
      simp (k, ne_eqb n 0 h)

  module _ (e : refused_with (time_tests a.time) ≡ 0) where
    second : refused_with (tests_for a b) ≡ refused_with (time_tests b.time)
    unfolding tests_for
    second = behind (time_tests a.time) (time_tests b.time) (free_time a.time e)

    pub follows_second : (n : ℕ) → n ≡ refused_with (time_tests b.time) → (n ≡ 0 → ⊥) → record { number = n; yes = false } ≡ follows_for a b
    unfolding follows_for
    follows_second n q h = simp (second, ← q, ne_eqb n 0 h)

    module _ (q : refused_with (time_tests b.time) ≡ 0) where
      pub follows_next : b.count ≡ (a.count + 1) % 2 ^ 32 → (t : Bool) → t ≡ times_follow a.time b.time → record { number = 0; yes = t } ≡ follows_for a b
      unfolding follows_for count_follows
      follows_next h t et = simp (second, q, eq-eqb _ _ h, et)

      pub follows_never : (b.count ≡ (a.count + 1) % 2 ^ 32 → ⊥) → record { number = 0; yes = eqb b.count ((a.count + 1) % 2 ^ 32) } ≡ follows_for a b
      unfolding follows_for count_follows
      follows_never h = simp (second, q, ne_eqb _ _ h)
