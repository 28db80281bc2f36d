-- Two packets follow each other if the counts do and, where both have a timestamp, the timestamps do (01, "Clock and recordings"; which
-- timestamps do: 02, E3). Assumes nothing.
use Rattle.std.specs.Prelude.{◌≡◌, ℕ, Option, None, Some, ◌+◌, ◌%◌, ◌^◌, Bool, true, false, ◌&&◌, List, [], ◌++◌, ◌==◌}
use Rattle.laws.specs.Pick.{pick}
use Rattle.laws.specs.Refuse.{Test, refused_with}
use Rattle.clock.specs.declared.Stamp.{Stamp}
use Rattle.clock.specs.Answers.{Judged}
use Rattle.clock.specs.Follows as stamps
use Rattle.clock.specs.Following.{FrameLater}
use Rattle.clock.specs.Stamps.{Within, field_tests}
use Rattle.clock.specs.Next.{next_for}
use Rattle.record.specs.declared.Record.{Record}

-- the frame after FFFFFFFF is 0
unfoldable pub count_follows : ℕ → ℕ → Bool
count_follows a b = b == (a + 1) % 2 ^ 32

-- nothing is asked of a packet that has no timestamp
unfoldable pub stamp_before : Stamp → Option Stamp → Bool
stamp_before a None = true
stamp_before a (Some b) = (stamps.follows_for a b).yes

unfoldable pub times_follow : Option Stamp → Option Stamp → Bool
times_follow None t = true
times_follow (Some a) t = stamp_before a t

-- the refusals: the fields of a timestamp that is there
unfoldable pub time_tests : Option Stamp → List Test
time_tests None = []
time_tests (Some a) = field_tests a

unfoldable pub tests_for : Record → Record → List Test
tests_for a b = time_tests a.time ++ time_tests b.time

unfoldable pub follows_for : Record → Record → Judged
follows_for a b =
    let number = refused_with (tests_for a b) in
    record { number = number; yes = pick (number == 0) (count_follows a.count b.count && times_follow a.time b.time) false }

-- a timestamp that is there fits
abbrev pub Fitting : Option Stamp → Type 0
Fitting None = Unit {0}
Fitting (Some a) = Within a

-- where both have one, the second is 400 ms on and its UTCO the same, one more or one less
abbrev pub OnTime : Option Stamp → Option Stamp → Type 0
OnTime (Some a) (Some b) = FrameLater a b
OnTime (Some a) None = Unit {0}
OnTime None t = Unit {0}

-- which packets follow which, in numbers
pub record Succession : Type 0 where
  -- 6 exactly if a timestamp that is there has a field too large
  pub refused : (a b : Record) → (Fitting a.time × Fitting b.time → ⊥) → follows_for a b ≡ record { number = 6; yes = false }
  pub taken : (a b : Record) → Fitting a.time → Fitting b.time → (follows_for a b).number ≡ 0
  -- else yes exactly if the counts follow and so do the timestamps, where both are there
  pub yes : (a b : Record) → Fitting a.time → Fitting b.time → b.count ≡ (a.count + 1) % 2 ^ 32 → OnTime a.time b.time → (follows_for a b).yes ≡ true
  pub yes_only : (a b : Record) → (follows_for a b).yes ≡ true
      → Fitting a.time × Fitting b.time × (b.count ≡ (a.count + 1) % 2 ^ 32) × OnTime a.time b.time

-- where counts and timestamps end (01, "MDI packet": the frame after FFFFFFFF is 0; "Clock and recordings")
pub record Ends : Type 0 where
  -- after FFFFFFFF comes 0, where the timestamps are in order too
  pub zero_after_last : (a b : Record) → a.count ≡ 0xffffffff → b.count ≡ 0 → (follows_for a b).number ≡ 0 → times_follow a.time b.time ≡ true → (follows_for a b).yes ≡ true
  -- and no other count
  pub no_other : (a b : Record) → a.count ≡ 0xffffffff → (follows_for a b).yes ≡ true → b.count ≡ 0
  -- nothing with a timestamp follows a timestamp without a successor
  pub no_successor : (a b : Record) (s t : Stamp) → a.time ≡ Some s → b.time ≡ Some t → (next_for s).number ≡ 18 → (follows_for a b).yes ≡ false
