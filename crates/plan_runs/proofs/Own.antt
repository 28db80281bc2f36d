-- A run in which every call brings a record of its own is a run of the sender's calls: of those whose record is accepted. Assumes nothing.
use Prim.Native.Nat.{ℕ}
use mathlib.Core.Path.{◌≡◌, refl, sym, ap, ◌∙◌, subst}
use mathlib.Core.List.{List, [], ◌∷◌, ◌++◌}
use mathlib.Core.Bool.{Bool, true, false}
use borrow.Author.Tests.{eqb-true}
use lib.Dec.{eqb}
use Rattle.laws.specs.Pick.{pick}
use Rattle.hand.specs.declared.Three.{Three}
use Rattle.plans.specs.Plans.{plans_for, in_force}
use Rattle.plans.specs.declared.Plans.{Plans}
use Rattle.planned.specs.Planned.{plan_load_for, plan_store_for, plan_frame_for}
use Rattle.demand.specs.Run.{Act, load, frame, Answer}
use Rattle.demand.specs.Log.{Event, events, Stands}
use Rattle.layers.specs.Run.{RingDesk, fresh_ring_desk, after_ring, run_ring, answer_ring, answers_ring, log_ring}
use Rattle.layers.specs.Holds.{Holds}
use Rattle.layers.proofs.Holds.{it_holds}
use Rattle.plan_runs.specs.Run.{give, write, change, answer_plan, after_plan, event_by}
use Rattle.plan_runs.specs.Own.{Own, on_desk, log_own, OwnHold}
use Rattle.plan_runs.proofs.Rings.{Is, given, written, in_front}

-- the sender's calls of such a run
record Found (calls : List Own) (y : RingDesk) : Type 0 where
  acts : List Act
  log : log_own calls y ≡ log_ring acts y

-- a call by an accepted record is the sender's, in front of the others
found_front : (c : Act) (b : Answer) (y z : RingDesk) (es : List Event) (acts : List Act) → b ≡ answer_ring c y → z ≡ after_ring c y → es ≡ log_ring acts z
    → (record { act = c; answer = b } ∷ es) ≡ log_ring (c ∷ acts) y
found_front c b y z es acts eb ez ee = (in_front c y z acts b es (run_ring acts z) eb ez ee refl).0

-- by another it leaves the desk
idle : (o : Own) (y : RingDesk) → eqb (plans_for o.0) 0 ≡ false → (after_plan o.1 (on_desk o y)).desk ≡ y
unfolding after_plan plan_load_for plan_store_for plan_frame_for
idle (g, give id unit) y e = simp e
idle (g, write f out) y e = simp e
idle (g, change c n share ceiling) y e = refl

-- a load or a frame, and the calls behind it
step : (o : Own) (c : Act) (rest : List Own) (y : RingDesk) → event_by o.1 (on_desk o y) ≡ (record { act = c; answer = answer_plan o.1 (on_desk o y) } ∷ [])
    → (plans_for o.0 ≡ 0 → Is o.1 c (on_desk o y)) → Found rest (after_plan o.1 (on_desk o y)).desk → Found (o ∷ rest) y
unfolding log_own
step o c rest y ev is f = go (eqb (plans_for o.0) 0) refl
  where
    z : RingDesk
    z = (after_plan o.1 (on_desk o y)).desk

    front : (b : Bool) → eqb (plans_for o.0) 0 ≡ b → log_own (o ∷ rest) y ≡ pick b (event_by o.1 (on_desk o y)) [] ++ log_own rest z
    front b e = ap (λ (t : Bool). pick t (event_by o.1 (on_desk o y)) [] ++ log_own rest z) e

    go : (b : Bool) → eqb (plans_for o.0) 0 ≡ b → Found (o ∷ rest) y
    go true e =
        let i = is (eqb-true _ _ e) in
        record {
          acts = c ∷ f.acts;
          log =
              front true e ∙ ap (λ (es : List Event). es ++ log_own rest z) ev
              ∙ found_front c (answer_plan o.1 (on_desk o y)) y z (log_own rest z) f.acts i.answer i.desk f.log;
        }
    go false e = record { acts = f.acts; log = front false e ∙ f.log ∙ ap (log_ring f.acts) (idle o y e) }

none : (b : Bool) (es : List Event) → pick b [] [] ++ es ≡ es
none true es = refl
none false es = refl

changed : (g : Plans) (c n : ℕ) (share ceiling : Three) (rest : List Own) (y : RingDesk) → Found rest y → Found ((g, change c n share ceiling) ∷ rest) y
unfolding log_own event_by after_plan
changed g c n share ceiling rest y f = record { acts = f.acts; log = none (eqb (plans_for g) 0) (log_own rest y) ∙ f.log }

found : (calls : List Own) (y : RingDesk) → Found calls y
unfolding log_own event_by answers_ring events
found [] y = record { acts = []; log = refl }
found ((g, give id unit) ∷ rest) y =
    step (g, give id unit) (load g.now id unit) rest y refl (λ h. given (on_desk (g, give id unit) y) h id unit)
    (found rest (after_plan (give id unit) (on_desk (g, give id unit) y)).desk)
found ((g, write f out) ∷ rest) y =
    step (g, write f out) (frame (in_force f g).now out) rest y refl (λ h. written (on_desk (g, write f out) y) h f out)
    (found rest (after_plan (write f out) (on_desk (g, write f out) y)).desk)
found ((g, change c n share ceiling) ∷ rest) y = changed g c n share ceiling rest y (found rest y)

pub own_hold : OwnHold
own_hold p calls store hs st =
    let f = found calls (fresh_ring_desk store) in
    subst (Holds p) (sym f.log) (it_holds p f.acts store hs (subst (Stands p) f.log st))
