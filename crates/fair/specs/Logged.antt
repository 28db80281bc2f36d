-- Fair spares as two customers find them in a log (02, E11): a run from the fresh state in which p stands, its calls and what each answered, and
-- nothing else. Of any stretch of it. Assumes nothing.
use Rattle.std.specs.Prelude.{ℕ, ◌+◌, ◌-◌, ◌<◌, ◌≤◌, min, ◌≡◌, List, [], ◌∷◌, ◌++◌, eqb}
use Rattle.laws.specs.Pick.{pick}
use Rattle.hand.specs.Settings.{at}
use Rattle.hand.specs.Spares.{BothBelow}
use Rattle.hand.specs.declared.Settings.{Settings}
use Rattle.demand.specs.Run.{Act, load, frame, Answer}
use Rattle.demand.specs.Log.{Event, waiting_at}
use Rattle.demand.specs.Reported.{waiting_three, turn_at}
use Rattle.fair.specs.Fair.{Close}

-- of each frame of a stretch that was written, with its settings, its answer and the calls before it
abbrev pub WrittenAt : (Settings → Answer → List Event → Type 0) → List Event → Act → Answer → Type 0
WrittenAt P before (load g id unit) b = Unit {0}
WrittenAt P before (frame g out) b = b.number ≡ 0 → P g b before

abbrev pub Throughout : (Settings → Answer → List Event → Type 0) → List Event → List Event → Type 0
Throughout P before [] = Unit {0}
Throughout P before (e ∷ es) = WrittenAt P before e.act e.answer × Throughout P (before ++ (e ∷ [])) es

-- a number of each of them, added up
unfoldable pub of_written : (Settings → Answer → List Event → ℕ) → List Event → Act → Answer → ℕ
of_written f before (load g id unit) b = 0
of_written f before (frame g out) b = pick (eqb b.number 0) (f g b before) 0

unfoldable pub all_written : (Settings → Answer → List Event → ℕ) → List Event → List Event → ℕ
all_written f before [] = 0
all_written f before (e ∷ es) = of_written f before e.act e.answer + all_written f (before ++ (e ∷ [])) es

-- the packets that a frame reports of queue i, and those beyond the smaller of its share and what waits
abbrev pub reported_of : ℕ → Settings → Answer → List Event → ℕ
reported_of i g b before = at b.packets i

abbrev pub beyond_of : ℕ → ℕ → Settings → Answer → List Event → ℕ
beyond_of p i g b before = at b.packets i - min (at g.share i) (waiting_at p i before)

-- ---- the premise of E11: in each frame of the stretch, each time a spare is handed out, i and j are both still below
abbrev pub BusyIn : ℕ → ℕ → ℕ → List Event → List Event → Type 0
BusyIn p i j = Throughout (λ g b before. BothBelow g (waiting_three p before) (turn_at p before) i j)

-- what the numbers of a log show: behind each frame some of i still wait, and it is below its ceiling; and so of j
abbrev pub StillBelow : ℕ → ℕ → Settings → Answer → List Event → Type 0
StillBelow p i g b before = at b.packets i < min (waiting_at p i before) (at g.ceiling i)

abbrev pub StillIn : ℕ → ℕ → ℕ → List Event → List Event → Type 0
StillIn p i j = Throughout (λ g b before. StillBelow p i g b before × StillBelow p j g b before)

-- in each frame i and j have equal shares, and at least these waiting
abbrev pub ShareWaits : ℕ → ℕ → Settings → Answer → List Event → Type 0
ShareWaits p i g b before = at g.share i ≤ waiting_at p i before

abbrev pub LevelIn : ℕ → ℕ → ℕ → List Event → List Event → Type 0
LevelIn p i j = Throughout (λ g b before. (at g.share i ≡ at g.share j) × ShareWaits p i g b before × ShareWaits p j g b before)

-- ---- the statement
pub record FairIn (p i j : ℕ) (before stretch : List Event) : Type 0 where
  -- the spares, as reported
  pub spares : BusyIn p i j before stretch → Close (all_written (beyond_of p i) before stretch) (all_written (beyond_of p j) before stretch)
  -- all packets, where shares are equal and wait
  pub packets : BusyIn p i j before stretch → LevelIn p i j before stretch → Close (all_written (reported_of i) before stretch) (all_written (reported_of j) before stretch)
  -- the premise is met where the numbers of the log show it
  pub still : StillIn p i j before stretch → BusyIn p i j before stretch

-- of queues i and j, in any stretch of the log
abbrev pub FairLog : ℕ → List Event → Type 0
FairLog p es =
    (i j : ℕ) → i < 3 → j < 3 → (before stretch behind : List Event) → es ≡ before ++ (stretch ++ behind) → FairIn p i j before stretch
