-- The next timestamp is strictly later, by exactly 400 ms; what follows a timestamp has the time of its next one, and nothing follows one that has none.
-- Assumes nothing.
use Prim.Native.Nat.{ℕ, ◌+◌, ◌^◌, ◌<◌}
use mathlib.Core.Bool.{Bool, true, false}
use mathlib.Core.Path.{◌≡◌, refl, sym, ap, subst, ◌∙◌}
use mathlib.Core.List.{[], ◌∷◌}
use native.Mathlib.Omega.{arith}
use borrow.Author.Tests.{lt-leb, leb-false, eqb-true}
use lib.Dec.{lit<, leb}
use Rattle.laws.proofs.Flags.{both}
use Rattle.laws.proofs.Verdict.{yes_means}
use Rattle.laws.specs.Refuse.{test, refused_with}
use Rattle.laws.proofs.Refuse.{accepted}
use Rattle.clock.specs.declared.Stamp.{Stamp}
use Rattle.clock.specs.Answers.{Stamped}
use Rattle.clock.specs.Stamps.{Within, field_tests, stamped}
use Rattle.clock.specs.Next.{elapsed, later, next_tests, next_for}
use Rattle.clock.specs.Follows.{time_follows, utco_follows, stamp_follows, follows_tests, follows_for}
use Rattle.clock.specs.Following.{with_utco}
use Rattle.clock.proofs.Fit.{free_fields, within, fits}
use Rattle.laws.proofs.Join.{behind, both_free}
use Rattle.clock.proofs.Later.{exactly_later, same_utco_law, later_is}

module _ (t : Stamp) where
  -- given exactly if the fields fit and so do the later seconds
  pub next_takes : (next_for t).number ≡ 0 → Within t × ((later t).seconds < 2 ^ 40)
  unfolding next_for stamped next_tests field_tests
  next_takes e =
      let p = both_free (field_tests t) (test (leb (2 ^ 40) (later t).seconds) 18 ∷ []) (lit< tt, (lit< tt, (lit< tt, (lit< tt, tt)))) e in
      (within t p.0, leb-false _ _ p.1.0)

  pub next_is : Within t → (later t).seconds < 2 ^ 40 → next_for t ≡ record { number = 0; stamp = later t }
  unfolding next_for stamped next_tests
  next_is w h =
      let k : refused_with (next_tests t) ≡ 0 = behind (field_tests t) _ (free_fields t (fits t w)) ∙ simp (lt-leb _ _ h) in
      simp k

  -- later by exactly 400 ms, with the same UTCO
  pub next_later : (next_for t).number ≡ 0 → (elapsed (next_for t).stamp ≡ elapsed t + 400) × ((next_for t).stamp.utco ≡ t.utco)
  next_later e = let p = next_takes e in simp (next_is p.0 p.1) (exactly_later t, same_utco_law t)

  pub strictly_later : (next_for t).number ≡ 0 → elapsed t < elapsed (next_for t).stamp
  strictly_later e = let h = (next_later e).0 in omega arith

  -- so the next one may be handed in again
  pub next_within : (next_for t).number ≡ 0 → Within (next_for t).stamp
  unfolding later
  next_within e =
      let p = next_takes e in
      rw (next_is p.0 p.1) (record { utco = p.0.utco; seconds = p.1; milliseconds = omega arith })

module _ (a b : Stamp) where
  pub follows_takes : (follows_for a b).number ≡ 0 → Within a × Within b
  unfolding follows_for follows_tests field_tests
  follows_takes e =
      let p = both_free (field_tests a) (field_tests b) (lit< tt, (lit< tt, (lit< tt, (lit< tt, (lit< tt, (lit< tt, tt)))))) e in
      (within a p.0, within b (accepted (field_tests b) p.1))

  pub follows_is : Within a → Within b → follows_for a b ≡ record { number = 0; yes = stamp_follows a b }
  unfolding follows_for follows_tests
  follows_is v w =
      let k : refused_with (follows_tests a b) ≡ 0 = behind (field_tests a) (field_tests b) (free_fields a (fits a v)) ∙ fits b w in
      simp k

  -- what a yes says
  pub follows_says : (follows_for a b).yes ≡ true → Within a × Within b × (elapsed b ≡ elapsed a + 400) × (utco_follows a b ≡ true)
  unfolding follows_for stamp_follows time_follows
  follows_says e =
      let y = yes_means (refused_with (follows_tests a b)) (stamp_follows a b) e in
      let w = follows_takes y.0 in
      let f = both (time_follows a b) (utco_follows a b) y.1 in
      (w.0, w.1, eqb-true _ _ f.0, f.1)

  -- so it is the next one, but for its UTCO
  pub follows_time : (follows_for a b).yes ≡ true → next_for a ≡ record { number = 0; stamp = with_utco b a.utco }
  unfolding elapsed
  follows_time e =
      let f = follows_says e in
      let l : with_utco b a.utco ≡ later a = later_is a b.seconds b.milliseconds f.2 f.1.milliseconds in
      rw (l, next_is a f.0 (subst (λ (s : Stamp). s.seconds < 2 ^ 40) l f.1.seconds))

  -- and nothing follows a timestamp without a successor
  pub none_follows : (next_for a).number ≡ 18 → (follows_for a b).yes ≡ false
  none_follows e = go (follows_for a b).yes refl
    where
      go : (y : Bool) → (follows_for a b).yes ≡ y → y ≡ false
      go false q = refl
      go true q = let z : ◌≡◌ {A = ℕ} 0 18 = sym (ap (λ (g : Stamped). g.number) (follows_time q)) ∙ e in absurd (omega arith)
