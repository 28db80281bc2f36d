-- Which timestamps follow which, from the definition: in numbers, against the rule before E3, and that they are three. Assumes nothing.
use Prim.Native.Nat.{ℕ, ◌^◌, ◌<◌}
use mathlib.Core.Bool.{Bool, true, false, ◌&&◌, ◌||◌, or-true}
use mathlib.Core.Logic.{◌⊎◌, inl, inr, ⊎_elim}
use mathlib.Core.Path.{◌≡◌, refl, ap, ◌∙◌}
use native.Mathlib.Omega.{arith}
use borrow.Author.Tests.{eqb-true, eq-eqb}
use lib.Dec.{eqb}
use Rattle.laws.specs.Refuse.{refused_with}
use Rattle.laws.proofs.Flags.{both, either}
use Rattle.laws.proofs.Verdict.{yes_means, Numbered, numbered_join, one_number}
use Rattle.clock.specs.declared.Stamp.{Stamp}
use Rattle.clock.specs.Answers.{Stamped, Judged}
use Rattle.clock.specs.Stamps.{Within, field_tests}
use Rattle.clock.specs.Next.{elapsed, next_for}
use Rattle.clock.specs.Follows.{one_more, time_follows, utco_follows, stamp_follows, follows_tests, follows_for}
use Rattle.clock.specs.SameUtco.{same_utco, followed_for}
use Rattle.clock.specs.Following.{one_less, OneApart, FrameLater, with_utco, more_of, less_of, Three, Following}
use Rattle.clock.proofs.Successor.{next_takes, next_later, next_within, follows_takes, follows_is, follows_says, follows_time, none_follows}

-- ---- one more and one less are each other's way back

more_less : (u v : ℕ) → u < 2 ^ 14 → v < 2 ^ 14 → u ≡ one_more v → v ≡ one_less u
unfolding one_more one_less
more_less u v hu hv e = omega arith

less_more : (u v : ℕ) → u < 2 ^ 14 → v < 2 ^ 14 → v ≡ one_less u → u ≡ one_more v
unfolding one_more one_less
less_more u v hu hv e = omega arith

more_fits : (u : ℕ) → one_more u < 2 ^ 14
unfolding one_more
more_fits u = omega arith

less_fits : (u : ℕ) → one_less u < 2 ^ 14
unfolding one_less
less_fits u = omega arith

module _ (u : ℕ) (h : u < 2 ^ 14) where
  more_other : one_more u ≡ u → ⊥
  unfolding one_more
  more_other e = omega arith

  less_other : one_less u ≡ u → ⊥
  unfolding one_less
  less_other e = omega arith

  both_other : one_more u ≡ one_less u → ⊥
  unfolding one_more one_less
  both_other e = omega arith

-- ---- one of three tests

any_of : (x y z : Bool) → (x ≡ true) ⊎ ((y ≡ true) ⊎ (z ≡ true)) → x || y || z ≡ true
any_of x y z (inl e) = rw e refl
any_of x y z (inr (inl e)) = rw (e, or-true x) refl
any_of x y z (inr (inr e)) = rw e (or-true (x || y))

of_any : (x y z : Bool) → x || y || z ≡ true → (x ≡ true) ⊎ ((y ≡ true) ⊎ (z ≡ true))
of_any x y z e = ⊎_elim (λ f. ⊎_elim inl (λ g. inr (inl g)) (either x y f)) (λ f. inr (inr f)) (either (x || y) z e)

-- ---- the rule in numbers

-- a field too large is 6
pub six_fields : (t : Stamp) → Numbered 6 (field_tests t)
unfolding field_tests
six_fields t = (refl, (refl, (refl, tt)))

module _ (a b : Stamp) where
  six : Numbered 6 (follows_tests a b)
  unfolding follows_tests
  six = numbered_join 6 (field_tests a) (field_tests b) (six_fields a) (six_fields b)

  refused : (Within a × Within b → ⊥) → follows_for a b ≡ record { number = 6; yes = false }
  unfolding follows_for
  refused h = ⊎_elim (λ e. absurd (h (follows_takes a b e))) (λ (e : refused_with (follows_tests a b) ≡ 6). simp e) (one_number 6 (follows_tests a b) six)

  taken : Within a → Within b → (follows_for a b).number ≡ 0
  taken v w = ap (λ (j : Judged). j.number) (follows_is a b v w)

  -- the UTCO's part
  near : Within a → Within b → (b.utco ≡ a.utco) ⊎ OneApart a.utco b.utco → utco_follows a b ≡ true
  unfolding utco_follows
  near v w e =
      any_of _ _ _
      (⊎_elim (λ f. inl (eq-eqb _ _ f))
      (λ f. inr (⊎_elim (λ g. inl (eq-eqb _ _ g)) (λ g. inr (eq-eqb _ _ (less_more a.utco b.utco v.utco w.utco g))) f)) e)

  near_only : Within a → Within b → utco_follows a b ≡ true → (b.utco ≡ a.utco) ⊎ OneApart a.utco b.utco
  unfolding utco_follows
  near_only v w e =
      ⊎_elim (λ f. inl (eqb-true _ _ f))
      (λ f. inr (⊎_elim (λ g. inl (eqb-true _ _ g)) (λ g. inr (more_less a.utco b.utco v.utco w.utco (eqb-true _ _ g))) f))
      (of_any (eqb b.utco a.utco) (eqb b.utco (one_more a.utco)) (eqb a.utco (one_more b.utco)) e)

  yes : Within a → Within b → FrameLater a b → (follows_for a b).yes ≡ true
  unfolding stamp_follows time_follows elapsed
  yes v w f = ap (λ (j : Judged). j.yes) (follows_is a b v w) ∙ simp (eq-eqb _ _ f.time, near v w f.utco)

  yes_only : (follows_for a b).yes ≡ true → Within a × Within b × FrameLater a b
  unfolding elapsed
  yes_only e =
      let f = follows_says a b e in
      (f.0, f.1, record { time = f.2; utco = near_only f.0 f.1 f.3 })

  -- ---- against the rule before E3

  number_stays : (followed_for a b).number ≡ (follows_for a b).number
  unfolding followed_for follows_for
  number_stays = refl

  still_follows : (followed_for a b).yes ≡ true → ((follows_for a b).yes ≡ true) × (b.utco ≡ a.utco)
  unfolding followed_for follows_for stamp_follows utco_follows same_utco
  still_follows e =
      let y = yes_means (refused_with (follows_tests a b)) (time_follows a b && same_utco a b) e in
      let f = both (time_follows a b) (same_utco a b) y.1 in
      let u : b.utco ≡ a.utco = eqb-true _ _ f.1 in
      (simp (y.0, f.0, eq-eqb _ _ u), u)

  followed : (follows_for a b).yes ≡ true → b.utco ≡ a.utco → (followed_for a b).yes ≡ true
  unfolding followed_for follows_for stamp_follows same_utco
  followed e u =
      let y = yes_means (refused_with (follows_tests a b)) (stamp_follows a b) e in
      let f = both (time_follows a b) (utco_follows a b) y.1 in
      simp (y.0, f.0, eq-eqb _ _ u)

  -- ---- the three

  among_three : (follows_for a b).yes ≡ true
      → (b ≡ (next_for a).stamp) ⊎ ((b ≡ more_of (next_for a).stamp) ⊎ (b ≡ less_of (next_for a).stamp))
  among_three e =
      let f = yes_only e in
      let n : (next_for a).stamp ≡ with_utco b a.utco = ap (λ (g : Stamped). g.stamp) (follows_time a b e) in
      rw n (⊎_elim (λ g. inl (ap (with_utco b) g)) (λ g. inr (⊎_elim (λ h. inl (ap (with_utco b) h)) (λ h. inr (ap (with_utco b) h)) g)) f.2.utco)

module _ (a : Stamp) (z : (next_for a).number ≡ 0) where
  -- the next one, with a UTCO that may follow
  with_follows : (u : ℕ) → u < 2 ^ 14 → (u ≡ a.utco) ⊎ OneApart a.utco u → (follows_for a (with_utco (next_for a).stamp u)).yes ≡ true
  unfolding elapsed
  with_follows u h e =
      let w = next_within a z in
      let f : FrameLater a (with_utco (next_for a).stamp u) = record { time = (next_later a z).0; utco = e } in
      yes a (with_utco (next_for a).stamp u) (next_takes a z).0 (record { utco = h; seconds = w.seconds; milliseconds = w.milliseconds }) f

  each_follows : ((follows_for a (next_for a).stamp).yes ≡ true) × ((follows_for a (more_of (next_for a).stamp)).yes ≡ true) × ((follows_for a (less_of (next_for a).stamp)).yes ≡ true)
  each_follows =
      let u : (next_for a).stamp.utco ≡ a.utco = (next_later a z).1 in (
        with_follows (next_for a).stamp.utco (next_within a z).utco (inl u),
        with_follows (one_more (next_for a).stamp.utco) (more_fits (next_for a).stamp.utco) (inr (inl (ap one_more u))),
        with_follows (one_less (next_for a).stamp.utco) (less_fits (next_for a).stamp.utco) (inr (inr (ap one_less u))),
      )

  are_three : Three (next_for a).stamp
  are_three =
      let u = (next_for a).stamp.utco in
      let h : u < 2 ^ 14 = (next_within a z).utco in
      record {
        more = λ e. more_other u h (ap (λ (s : Stamp). s.utco) e);
        less = λ e. less_other u h (ap (λ (s : Stamp). s.utco) e);
        both = λ e. both_other u h (ap (λ (s : Stamp). s.utco) e);
      }

pub following : Following
following = record {
  refused = refused;
  taken = taken;
  yes = yes;
  yes_only = yes_only;
  number_stays = number_stays;
  still_follows = still_follows;
  followed = followed;
  among_three = among_three;
  each_follows = each_follows;
  are_three = are_three;
  none = none_follows;
}
