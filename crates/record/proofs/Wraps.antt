-- The count's successor wraps, and nothing follows a timestamp without a successor (01, "MDI packet", "Clock and recordings"). Assumes nothing.
use Rattle.std.proofs.Common.{◌≡◌, ℕ, ◌+◌, ◌%◌, ◌^◌, Bool, true, false, sym, refl, ap, ◌∙◌, ap₂, true≢false, eqb-true}
use Rattle.std.specs.Prelude.{Option, Some}
use Rattle.laws.specs.Refuse.{refused_with}
use Rattle.laws.proofs.Flags.{both}
use Rattle.laws.proofs.Verdict.{yes_means}
use Rattle.clock.specs.declared.Stamp.{Stamp}
use Rattle.clock.specs.Next.{next_for}
use Rattle.clock.proofs.Successor.{none_follows}
use Rattle.record.specs.declared.Record.{Record}
use Rattle.record.specs.Succession.{count_follows, stamp_before, times_follow, tests_for, follows_for, Ends}

zero_after_last : (a b : Record) → a.count ≡ 0xffffffff → b.count ≡ 0 → (follows_for a b).number ≡ 0 → times_follow a.time b.time ≡ true → (follows_for a b).yes ≡ true
unfolding follows_for count_follows
zero_after_last a b ea eb n t = rw (n, ea, eb, t) refl

-- a packet that follows has the next count, and its timestamp follows
pub follows_only : (a b : Record) → (follows_for a b).yes ≡ true → (count_follows a.count b.count ≡ true) × (times_follow a.time b.time ≡ true)
unfolding follows_for
follows_only a b e = both _ _ (yes_means (refused_with (tests_for a b)) _ e).1

no_other : (a b : Record) → a.count ≡ 0xffffffff → (follows_for a b).yes ≡ true → b.count ≡ 0
unfolding count_follows
no_other a b ea e = eqb-true b.count ((a.count + 1) % 2 ^ 32) (follows_only a b e).0 ∙ ap (λ (n : ℕ). (n + 1) % 2 ^ 32) ea

-- where both packets have a timestamp and the first's has no successor, the second does not follow
last_stamp : (s t : Stamp) → (next_for s).number ≡ 18 → times_follow (Some s) (Some t) ≡ false
unfolding times_follow stamp_before
last_stamp s t e = none_follows s t e

no_successor : (a b : Record) (s t : Stamp) → a.time ≡ Some s → b.time ≡ Some t → (next_for s).number ≡ 18 → (follows_for a b).yes ≡ false
no_successor a b s t ea eb n = go (follows_for a b).yes refl
  where
    go : (c : Bool) → (follows_for a b).yes ≡ c → c ≡ false
    go true e = absurd (true≢false (sym (follows_only a b e).1 ∙ ap₂ (λ (x y : Option Stamp). times_follow x y) ea eb ∙ last_stamp s t n))
    go false e = refl

pub ends : Ends
ends = record { zero_after_last = zero_after_last; no_other = no_other; no_successor = no_successor }
