-- What a frame holds and what it reports (01: packets per queue, spares handed out, and filler), of a run: of its calls and what each answered.
-- Assumes nothing.
use Rattle.std.specs.Prelude.{ℕ, ◌+◌, ◌<◌, min, ◌≡◌, List, [], ◌∷◌, ◌++◌, eqb, length}
use Rattle.laws.specs.Pick.{pick}
use Rattle.hand.specs.Settings.{at}
use Rattle.hand.specs.Hand.{hand_for, spare_ids, count_of}
use Rattle.hand.specs.Served.{Served}
use Rattle.hand.specs.declared.Three.{Three}
use Rattle.demand.specs.Run.{Act, load, frame}
use Rattle.demand.specs.Log.{Event, waiting_at}
use Rattle.demand.specs.Condition.{Written, carries}

-- the packets that wait in each queue
abbrev pub waiting_three : ℕ → List Event → Three
waiting_three p es = record { a = waiting_at p 0 es; b = waiting_at p 1 es; c = waiting_at p 2 es }

-- the packets of each queue in a frame that was written
abbrev pub holds : {es : List Event} → Written es → Three
holds f = record { a = carries f 0; b = carries f 1; c = carries f 2 }

-- the turn: t behind the calls `before`, then as each frame that is written leaves it
unfoldable pub turn_by : ℕ → List Event → ℕ → Act → ℕ
turn_by p before t (load g id unit) = t
turn_by p before t (frame g out) = (hand_for g (waiting_three p before) t).turn

unfoldable pub turn_from : ℕ → List Event → ℕ → List Event → ℕ
turn_from p before t [] = t
turn_from p before t (e ∷ es) = turn_from p (before ++ (e ∷ [])) (pick (eqb e.answer.number 0) (turn_by p before t e.act) t) es

-- it starts at 0
abbrev pub turn_at : ℕ → List Event → ℕ
turn_at p es = turn_from p [] 0 es

-- the steps of handing out spares in a frame that was written
abbrev pub steps_of : {es : List Event} → ℕ → Written es → List ℕ
steps_of p f = spare_ids f.g (waiting_three p f.before) (turn_at p f.before)

-- of a run in which p stands
pub record Reported (p : ℕ) (es : List Event) : Type 0 where
  -- the packets counted in its output serve the queues as condition C asks
  pub served : (f : Written es) → Served f.g.n (waiting_three p f.before) f.g.share f.g.ceiling (holds f)
  -- packets and filler are those counted in the written frame, and these are all of it
  pub packets : (f : Written es) (id : ℕ) → id < 3 → at f.answer.packets id ≡ carries f id
  pub filler : (f : Written es) → f.answer.filler ≡ carries f 3
  pub whole : (f : Written es) → carries f 0 + carries f 1 + carries f 2 + carries f 3 ≡ f.g.n
  -- spares are the steps of handing out, and each queue has one packet for each step that named it, above the smaller of share and waiting
  pub spares : (f : Written es) → f.answer.spares ≡ length (steps_of p f)
  pub steps : (f : Written es) (id : ℕ) → id < 3 → carries f id ≡ min (at f.g.share id) (waiting_at p id f.before) + count_of id (steps_of p f)
