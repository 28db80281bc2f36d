-- E11 of 02, the spares: "in any run of consecutive frames in which two queues, each time a spare is handed out, are both still below their
-- waiting packets and their ceilings, the spares they got differ by at most one". Of any calls from any desk. Assumes nothing.
use Rattle.std.specs.Prelude.{ℕ, ◌+◌, ◌<◌, ◌≤◌, min, ◌≡◌, List, [], ◌∷◌, length}
use Rattle.hand.specs.Settings.{at}
use Rattle.hand.specs.Hand.{count_of}
use Rattle.hand.specs.Spares.{BothBelow, ahead}
use Rattle.hand.specs.declared.Settings.{Settings}
use Rattle.demand.specs.Run.{Act, load, frame, Desk, number_of, after, run, answer}
use Rattle.fair.specs.Spares.{waits_before, spares_by, spares_in, sum_over, got_by, beyond_by}

-- of each frame of a run that is not refused
abbrev pub EachFrame : (Settings → List ℕ → Desk → Type 0) → List Act → Desk → Type 0
EachFrame P [] x = Unit {0}
EachFrame P (load g id unit ∷ rest) x = EachFrame P rest (after (load g id unit) x)
EachFrame P (frame g out ∷ rest) x = (number_of (frame g out) x ≡ 0 → P g out x) × EachFrame P rest (after (frame g out) x)

-- ---- the premise: each time a spare is handed out, to whichever queue, i and j are both still below what waits in them and their ceilings
abbrev pub Busy : ℕ → ℕ → List Act → Desk → Type 0
Busy i j = EachFrame (λ g out x. BothBelow g (waits_before (frame g out) x) x.state.turn i j)

-- so it is where each frame reports fewer packets of both than wait and than their ceilings
abbrev pub Left : ℕ → Settings → List ℕ → Desk → Type 0
Left i g out x = got_by i (frame g out) x < min (at (waits_before (frame g out) x) i) (at g.ceiling i)

abbrev pub LeftOver : ℕ → ℕ → List Act → Desk → Type 0
LeftOver i j = EachFrame (λ g out x. Left i g out x × Left j g out x)

-- i and j have equal shares in each frame, and at least these waiting
abbrev pub Met : ℕ → Settings → List ℕ → Desk → Type 0
Met i g out x = at g.share i ≤ at (waits_before (frame g out) x) i

abbrev pub Level : ℕ → ℕ → List Act → Desk → Type 0
Level i j = EachFrame (λ g out x. (at g.share i ≡ at g.share j) × Met i g out x × Met j g out x)

-- ---- the statement
-- they differ by at most one
abbrev pub Close : ℕ → ℕ → Type 0
Close m n = (m ≤ n + 1) × (n ≤ m + 1)

pub record FairSpares (i j : ℕ) (acts : List Act) (x : Desk) : Type 0 where
  -- how often i and j stand in the list of all ids that got a spare
  pub spares : Close (count_of i (spares_in acts x)) (count_of j (spares_in acts x))
  -- as reported: the packets of each beyond the smaller of share and waiting
  pub reported : Close (sum_over (beyond_by i) acts x) (sum_over (beyond_by j) acts x)
  -- all their packets, where they have equal shares, and at least these waiting
  pub packets : Level i j acts x → Close (sum_over (got_by i) acts x) (sum_over (got_by j) acts x)
  -- why: the one that the turn serves first before the run may be one ahead, and the one that it serves first behind it one short
  pub turn : count_of i (spares_in acts x) + ahead i j (run acts x).state.turn ≡ count_of j (spares_in acts x) + ahead i j x.state.turn

-- E11
abbrev pub SparesAreFair : Type 0
SparesAreFair = (i j : ℕ) → i < 3 → j < 3 → (acts : List Act) (x : Desk) → Busy i j acts x → FairSpares i j acts x

abbrev pub LeftIsBusy : Type 0
LeftIsBusy = (i j : ℕ) (acts : List Act) (x : Desk) → LeftOver i j acts x → Busy i j acts x

-- ---- what a frame reports
-- its spares are the steps of handing out, and of each queue one packet for each step that named it, above the smaller of share and waiting
pub record Reports (g : Settings) (out : List ℕ) (x : Desk) : Type 0 where
  pub spares : (answer (frame g out) x).spares ≡ length (spares_by (frame g out) x)
  pub packets : (i : ℕ) → i < 3 → got_by i (frame g out) x ≡ min (at g.share i) (at (waits_before (frame g out) x) i) + count_of i (spares_by (frame g out) x)

abbrev pub StepsAreReported : Type 0
StepsAreReported = (g : Settings) (out : List ℕ) (x : Desk) → number_of (frame g out) x ≡ 0 → Reports g out x
