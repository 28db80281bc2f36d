-- A load or a frame by an allowed record is one of the sender's, by the set in force for it; so a run by such a record is a run of the
-- sender's calls, with p unchanged. Assumes nothing.
use Prim.Native.Nat.{ℕ}
use mathlib.Core.Path.{◌≡◌, refl, ap, ◌∙◌}
use mathlib.Core.List.{List, [], ◌∷◌}
use borrow.Author.Tests.{eq-eqb}
use Rattle.hand.specs.declared.Three.{Three}
use Rattle.plans.specs.Plans.{plans_for, in_force}
use Rattle.planned.specs.Planned.{plan_load_for, plan_store_for, framed_by, plan_frame_for, plan_frame_out}
use Rattle.demand.specs.Run.{Act, load, frame, Answer, Steady}
use Rattle.demand.specs.Log.{Event, events, Stands}
use Rattle.layers.specs.Run.{RingDesk, after_ring, run_ring, answer_ring, answers_ring, log_ring}
use Rattle.plan_runs.specs.Run.{Ask, give, write, change, PlanDesk, answer_plan, after_plan, run_plan, through, event_by, log_plan}
use Rattle.plan_runs.proofs.Record.{Fine, fine_back, force_p, after_p, after_fine}

-- ---- one call
-- an outer call on x is this call of the sender
pub record Is (a : Ask) (c : Act) (x : PlanDesk) : Type 0 where
  pub answer : answer_plan a x ≡ answer_ring c x.desk
  pub desk : (after_plan a x).desk ≡ after_ring c x.desk

module _ (x : PlanDesk) (h : plans_for x.plans ≡ 0) where
  pub given : (id : ℕ) (unit : List ℕ) → Is (give id unit) (load x.plans.now id unit) x
  unfolding answer_plan after_plan answer_ring after_ring plan_load_for plan_store_for
  given id unit = record { answer = simp (eq-eqb _ 0 h); desk = simp (eq-eqb _ 0 h) }

  pub written : (f : ℕ) (out : List ℕ) → Is (write f out) (frame (in_force f x.plans).now out) x
  unfolding answer_plan after_plan answer_ring after_ring plan_frame_for framed_by plan_frame_out
  written f out = record { answer = simp (eq-eqb _ 0 h); desk = simp (eq-eqb _ 0 h) }

desk_stays : (c n : ℕ) (share ceiling : Three) (x : PlanDesk) → (after_plan (change c n share ceiling) x).desk ≡ x.desk
unfolding after_plan
desk_stays c n share ceiling x = refl

-- ---- a run
unfoldable pub asked : List Ask → PlanDesk → List Act
asked [] x = []
asked (give id unit ∷ rest) x = load x.plans.now id unit ∷ asked rest (after_plan (give id unit) x)
asked (write f out ∷ rest) x = frame (in_force f x.plans).now out ∷ asked rest (after_plan (write f out) x)
asked (change c n share ceiling ∷ rest) x = asked rest (after_plan (change c n share ceiling) x)

pub record AsRings (asks : List Ask) (x : PlanDesk) : Type 0 where
  pub log : log_plan asks x ≡ log_ring (asked asks x) x.desk
  pub desk : (run_plan asks x).desk ≡ run_ring (asked asks x) x.desk

-- a call in front
pub in_front : (c : Act) (d e : RingDesk) (acts : List Act) (b : Answer) (es : List Event) (last : RingDesk) → b ≡ answer_ring c d → e ≡ after_ring c d
    → es ≡ log_ring acts e → last ≡ run_ring acts e
    → ((record { act = c; answer = b } ∷ es) ≡ log_ring (c ∷ acts) d) × (last ≡ run_ring (c ∷ acts) d)
unfolding run_ring answers_ring events
in_front c d e acts b es last eb ee hl hr = (
  ap (λ (v : Answer). record { act = c; answer = v } ∷ es) eb
      ∙ ap (λ (l : List Event). record { act = c; answer = answer_ring c d } ∷ l) (hl ∙ ap (log_ring acts) ee),
  hr ∙ ap (run_ring acts) ee,
)

pub as_rings : (asks : List Ask) (x : PlanDesk) → Fine x.plans → AsRings asks x
unfolding through event_by asked run_plan run_ring answers_ring events
as_rings [] x k = record { log = refl; desk = refl }
as_rings (give id unit ∷ rest) x k =
    let i = given x (fine_back x.plans k) id unit in
    let r = as_rings rest (after_plan (give id unit) x) (after_fine (give id unit) x k) in
    let o = in_front (load x.plans.now id unit) x.desk _ (asked rest (after_plan (give id unit) x)) _ _ _ i.answer i.desk r.log r.desk in
    record { log = o.0; desk = o.1 }
as_rings (write f out ∷ rest) x k =
    let i = written x (fine_back x.plans k) f out in
    let r = as_rings rest (after_plan (write f out) x) (after_fine (write f out) x k) in
    let o = in_front (frame (in_force f x.plans).now out) x.desk _ (asked rest (after_plan (write f out) x)) _ _ _ i.answer i.desk r.log r.desk in
    record { log = o.0; desk = o.1 }
as_rings (change c n share ceiling ∷ rest) x k =
    let r = as_rings rest (after_plan (change c n share ceiling) x) (after_fine (change c n share ceiling) x k) in
    let acts = asked rest (after_plan (change c n share ceiling) x) in
    let e = desk_stays c n share ceiling x in
    record { log = r.log ∙ ap (log_ring acts) e; desk = r.desk ∙ ap (run_ring acts) e }

-- ---- p stands, whatever the record
stands_at : (p : ℕ) (asks : List Ask) (x : PlanDesk) → x.plans.now.p ≡ p → Stands p (log_plan asks x)
unfolding through event_by
stands_at p [] x e = tt
stands_at p (give id unit ∷ rest) x e = ((λ z. e), stands_at p rest (after_plan (give id unit) x) (after_p (give id unit) x ∙ e))
stands_at p (write f out ∷ rest) x e = ((λ z. force_p f x.plans ∙ e), stands_at p rest (after_plan (write f out) x) (after_p (write f out) x ∙ e))
stands_at p (change c n share ceiling ∷ rest) x e =
    stands_at p rest (after_plan (change c n share ceiling) x) (after_p (change c n share ceiling) x ∙ e)

pub stands : (asks : List Ask) (x : PlanDesk) → Stands x.plans.now.p (log_plan asks x)
stands asks x = stands_at x.plans.now.p asks x refl

-- and every call of the sender has it
pub steady : (p : ℕ) (asks : List Ask) (x : PlanDesk) → x.plans.now.p ≡ p → Steady p (asked asks x)
unfolding asked
steady p [] x e = tt
steady p (give id unit ∷ rest) x e = (e, steady p rest (after_plan (give id unit) x) (after_p (give id unit) x ∙ e))
steady p (write f out ∷ rest) x e = (force_p f x.plans ∙ e, steady p rest (after_plan (write f out) x) (after_p (write f out) x ∙ e))
steady p (change c n share ceiling ∷ rest) x e =
    steady p rest (after_plan (change c n share ceiling) x) (after_p (change c n share ceiling) x ∙ e)
