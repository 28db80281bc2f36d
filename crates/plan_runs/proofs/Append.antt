-- Runs one behind the other; and what every run leaves of the record. Assumes nothing.
use mathlib.Core.Path.{◌≡◌, refl, sym, ap, ◌∙◌}
use mathlib.Core.List.{List, [], ◌∷◌, ◌++◌, append_assoc}
use Rattle.plans.specs.Plans.{in_force}
use Rattle.demand.specs.Run.{Act, load, frame}
use Rattle.demand.specs.Log.{Event}
use Rattle.plan_runs.specs.Run.{Ask, give, write, change, PlanDesk, after_plan, run_plan, through, event_by, log_plan}
use Rattle.plan_runs.proofs.Record.{Fine, after_p, after_fine}
use Rattle.plan_runs.proofs.Rings.{asked}

pub run_p : (asks : List Ask) (x : PlanDesk) → (run_plan asks x).plans.now.p ≡ x.plans.now.p
unfolding run_plan
run_p [] x = refl
run_p (a ∷ rest) x = run_p rest (after_plan a x) ∙ after_p a x

pub run_fine : (asks : List Ask) (x : PlanDesk) → Fine x.plans → Fine (run_plan asks x).plans
unfolding run_plan
run_fine [] x k = k
run_fine (a ∷ rest) x k = run_fine rest (after_plan a x) (after_fine a x k)

pub run_append : (asks more : List Ask) (x : PlanDesk) → run_plan (asks ++ more) x ≡ run_plan more (run_plan asks x)
unfolding run_plan
run_append [] more x = refl
run_append (a ∷ asks) more x = run_append asks more (after_plan a x)

pub log_append : (asks more : List Ask) (x : PlanDesk) → log_plan (asks ++ more) x ≡ log_plan asks x ++ log_plan more (run_plan asks x)
unfolding through run_plan
log_append [] more x = refl
log_append (a ∷ asks) more x =
    ap (λ (es : List Event). event_by a x ++ es) (log_append asks more (after_plan a x))
    ∙ sym (append_assoc (event_by a x) (log_plan asks (after_plan a x)) (log_plan more (run_plan asks (after_plan a x))))

pub asked_append : (asks more : List Ask) (x : PlanDesk) → asked (asks ++ more) x ≡ asked asks x ++ asked more (run_plan asks x)
unfolding asked run_plan
asked_append [] more x = refl
asked_append (give id unit ∷ asks) more x = ap (λ (l : List Act). load x.plans.now id unit ∷ l) (asked_append asks more (after_plan (give id unit) x))
asked_append (write f out ∷ asks) more x =
    ap (λ (l : List Act). frame (in_force f x.plans).now out ∷ l) (asked_append asks more (after_plan (write f out) x))
asked_append (change c n share ceiling ∷ asks) more x = asked_append asks more (after_plan (change c n share ceiling) x)
