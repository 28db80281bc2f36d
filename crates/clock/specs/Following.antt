-- B9: which timestamps follow which, in numbers, and how many (02, E3; 002, 5.2.2). Assumes nothing.
use Rattle.std.specs.Prelude.{ℕ, ◌+◌, ◌*◌, ◌%◌, ◌^◌, true, false, ◌≡◌, ◌⊎◌}
use Rattle.clock.specs.declared.Stamp.{Stamp}
use Rattle.clock.specs.Stamps.{Within}
use Rattle.clock.specs.Next.{next_for}
use Rattle.clock.specs.Follows.{one_more, follows_for}
use Rattle.clock.specs.SameUtco.{followed_for}

-- one less, modulo 16,384
unfoldable pub one_less : ℕ → ℕ
one_less u = (u + 16383) % 2 ^ 14

-- v is one more or one less than u
abbrev pub OneApart : ℕ → ℕ → Type 0
OneApart u v = (v ≡ one_more u) ⊎ (v ≡ one_less u)

-- 400 ms on, with the same UTCO, one more or one less
pub record FrameLater (a b : Stamp) : Type 0 where
  pub time : b.seconds * 1000 + b.milliseconds ≡ a.seconds * 1000 + a.milliseconds + 400
  pub utco : (b.utco ≡ a.utco) ⊎ OneApart a.utco b.utco

-- the timestamp with another UTCO
abbrev pub with_utco : Stamp → ℕ → Stamp
with_utco t u = record { utco = u; seconds = t.seconds; milliseconds = t.milliseconds }

-- t with UTCO one more, and one less
abbrev pub more_of : Stamp → Stamp
more_of t = with_utco t (one_more t.utco)

abbrev pub less_of : Stamp → Stamp
less_of t = with_utco t (one_less t.utco)

-- t, and t with UTCO one more and one less, are three timestamps
pub record Three (t : Stamp) : Type 0 where
  pub more : more_of t ≡ t → ⊥
  pub less : less_of t ≡ t → ⊥
  pub both : more_of t ≡ less_of t → ⊥

pub record Following : Type 0 where
  -- 6 exactly if a field of either is too large, and then it is no
  pub refused : (a b : Stamp) → (Within a × Within b → ⊥) → follows_for a b ≡ record { number = 6; yes = false }
  pub taken : (a b : Stamp) → Within a → Within b → (follows_for a b).number ≡ 0
  -- else yes exactly if the second is 400 ms on and its UTCO is the same, one more or one less
  pub yes : (a b : Stamp) → Within a → Within b → FrameLater a b → (follows_for a b).yes ≡ true
  pub yes_only : (a b : Stamp) → (follows_for a b).yes ≡ true → Within a × Within b × FrameLater a b
  -- nothing that followed before E3 ceases to: the old number is the same, and the old answer is yes exactly if the new one is yes and the
  -- UTCOs are equal
  pub number_stays : (a b : Stamp) → (followed_for a b).number ≡ (follows_for a b).number
  pub still_follows : (a b : Stamp) → (followed_for a b).yes ≡ true → ((follows_for a b).yes ≡ true) × (b.utco ≡ a.utco)
  pub followed : (a b : Stamp) → (follows_for a b).yes ≡ true → b.utco ≡ a.utco → (followed_for a b).yes ≡ true
  -- exactly three timestamps follow one that has a successor: that one, and it with UTCO one more and one less
  pub among_three : (a b : Stamp) → (follows_for a b).yes ≡ true
      → (b ≡ (next_for a).stamp) ⊎ ((b ≡ more_of (next_for a).stamp) ⊎ (b ≡ less_of (next_for a).stamp))
  pub each_follows : (a : Stamp) → (next_for a).number ≡ 0
      → ((follows_for a (next_for a).stamp).yes ≡ true) × ((follows_for a (more_of (next_for a).stamp)).yes ≡ true) × ((follows_for a (less_of (next_for a).stamp)).yes ≡ true)
  pub are_three : (a : Stamp) → (next_for a).number ≡ 0 → Three (next_for a).stamp
  -- and none one that has none
  pub none : (a b : Stamp) → (next_for a).number ≡ 18 → (follows_for a b).yes ≡ false
