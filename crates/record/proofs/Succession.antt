-- Which packets follow which, in numbers. Assumes nothing.
use Rattle.std.proofs.Common.{◌≡◌, ◌+◌, ◌%◌, ◌^◌, true, false, ◌&&◌, refl, ◌∙◌, ⊎_elim, lit<, eq-eqb, eqb-true}
use Rattle.std.specs.Prelude.{Option, None, Some}
use Rattle.laws.specs.Refuse.{refused_with}
use Rattle.laws.proofs.Join.{both_free, behind}
use Rattle.laws.proofs.Refuse.{accepted}
use Rattle.laws.proofs.Verdict.{yes_means, Numbered, numbered_join, numbered_real, one_number}
use Rattle.clock.specs.declared.Stamp.{Stamp}
use Rattle.clock.proofs.Fit.{within, fits}
use Rattle.clock.proofs.Following.{six_fields, following}
use Rattle.record.specs.declared.Record.{Record}
use Rattle.record.specs.Succession.{count_follows, stamp_before, times_follow, time_tests, tests_for, follows_for, Fitting, OnTime, Succession}
use Rattle.record.proofs.Ways.{free_time}
use Rattle.record.proofs.Wraps.{follows_only}

-- ---- the fields

six_time : (t : Option Stamp) → Numbered 6 (time_tests t)
unfolding time_tests
six_time None = tt
six_time (Some a) = six_fields a

time_fits : (t : Option Stamp) → refused_with (time_tests t) ≡ 0 → Fitting t
unfolding time_tests
time_fits None e = tt
time_fits (Some a) e = within a e

fits_time : (t : Option Stamp) → Fitting t → refused_with (time_tests t) ≡ 0
unfolding time_tests
fits_time None f = refl
fits_time (Some a) f = fits a f

-- ---- the timestamps

times_yes : (s t : Option Stamp) → Fitting s → Fitting t → OnTime s t → times_follow s t ≡ true
unfolding times_follow stamp_before
times_yes None t f g o = refl
times_yes (Some a) None f g o = refl
times_yes (Some a) (Some b) f g o = following.yes a b f g o

times_only : (s t : Option Stamp) → times_follow s t ≡ true → OnTime s t
unfolding times_follow stamp_before
times_only None t e = tt
times_only (Some a) None e = tt
times_only (Some a) (Some b) e = (following.yes_only a b e).2

-- ---- the packets

module _ (a b : Record) where
  six : Numbered 6 (tests_for a b)
  unfolding tests_for
  six = numbered_join 6 (time_tests a.time) (time_tests b.time) (six_time a.time) (six_time b.time)

  none_wrong : refused_with (tests_for a b) ≡ 0 → Fitting a.time × Fitting b.time
  unfolding tests_for
  none_wrong e =
      let p = both_free (time_tests a.time) (time_tests b.time) (numbered_real 6 (tests_for a b) (lit< tt) six) e in
      (time_fits a.time p.0, time_fits b.time (accepted (time_tests b.time) p.1))

  refused : (Fitting a.time × Fitting b.time → ⊥) → follows_for a b ≡ record { number = 6; yes = false }
  unfolding follows_for
  refused h = ⊎_elim (λ e. absurd (h (none_wrong e))) (λ (e : refused_with (tests_for a b) ≡ 6). simp e) (one_number 6 (tests_for a b) six)

  taken : Fitting a.time → Fitting b.time → (follows_for a b).number ≡ 0
  unfolding follows_for tests_for
  taken f g = behind (time_tests a.time) (time_tests b.time) (free_time a.time (fits_time a.time f)) ∙ fits_time b.time g

  yes : Fitting a.time → Fitting b.time → b.count ≡ (a.count + 1) % 2 ^ 32 → OnTime a.time b.time → (follows_for a b).yes ≡ true
  unfolding follows_for count_follows
  yes f g c o = simp (taken f g, eq-eqb _ _ c, times_yes a.time b.time f g o)

  yes_only : (follows_for a b).yes ≡ true
      → Fitting a.time × Fitting b.time × (b.count ≡ (a.count + 1) % 2 ^ 32) × OnTime a.time b.time
  unfolding follows_for count_follows
  yes_only e =
      let n = (yes_means (refused_with (tests_for a b)) (count_follows a.count b.count && times_follow a.time b.time) e).0 in
      let f = none_wrong n in
      let o = follows_only a b e in
      (f.0, f.1, eqb-true _ _ o.0, times_only a.time b.time o.1)

pub succession : Succession
succession = record { refused = refused; taken = taken; yes = yes; yes_only = yes_only }
