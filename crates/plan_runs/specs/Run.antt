-- Runs of loads, frames and changes (02, E10): each call is handed the record of settings, the state and the store that the last one left. A
-- refused call changes nothing. Assumes nothing.
use Rattle.std.specs.Prelude.{ℕ, suc, ◌≡◌, List, [], ◌∷◌, ◌++◌, eqb}
use Rattle.laws.specs.Pick.{pick}
use Rattle.hand.specs.Hand.{no_three}
use Rattle.hand.specs.declared.Three.{Three}
use Rattle.hand.specs.declared.Settings.{Settings}
use Rattle.plans.specs.Plans.{in_force, change_for}
use Rattle.plans.specs.declared.Plans.{Plans}
use Rattle.planned.specs.Planned.{plan_load_for, plan_store_for, plan_frame_for, plan_frame_out}
use Rattle.demand.specs.Run.{load, frame, Answer}
use Rattle.demand.specs.Log.{Event}
use Rattle.layers.specs.Run.{RingDesk, fresh_ring_desk}

-- a call, with what is newly handed in: a unit for queue id; a frame's count and an output; or a second set and the count it waits for
pub data Ask : Type 0 where
  give : (id : ℕ) (unit : List ℕ) → Ask
  write : (f : ℕ) (out : List ℕ) → Ask
  change : (c n : ℕ) (share ceiling : Three) → Ask

-- what the calls hand on: the record, and the sender's state with its store
pub record PlanDesk : Type 0 where
  pub plans : Plans
  pub desk : RingDesk

-- a fresh sender, with this record and this store
abbrev pub fresh_plan_desk : Plans → List ℕ → PlanDesk
fresh_plan_desk g store = record { plans = g; desk = fresh_ring_desk store }

-- what the caller sees of a call, but for the record that it gives back
unfoldable pub answer_plan : Ask → PlanDesk → Answer
answer_plan (give id unit) x =
    record {
      number = (plan_load_for x.plans x.desk.state id unit x.desk.store).number;
      packets = no_three;
      spares = 0;
      filler = 0;
      out = [];
    }
answer_plan (write f out) x =
    let r = plan_frame_for x.plans f x.desk.state x.desk.store out in
    record {
      number = r.number;
      packets = r.packets;
      spares = r.spares;
      filler = r.filler;
      out = plan_frame_out x.plans f x.desk.state x.desk.store out;
    }
answer_plan (change c n share ceiling) x =
    record { number = (change_for x.plans c n share ceiling).number; packets = no_three; spares = 0; filler = 0; out = [] }

-- what is handed on after a call, and after a run of calls. A load gives no record back, a change no state, and a frame only reads the store
unfoldable pub after_plan : Ask → PlanDesk → PlanDesk
after_plan (give id unit) x =
    record {
      plans = x.plans;
      desk =
          record {
            state = (plan_load_for x.plans x.desk.state id unit x.desk.store).next;
            store = plan_store_for x.plans x.desk.state id unit x.desk.store;
          };
    }
after_plan (write f out) x =
    let r = plan_frame_for x.plans f x.desk.state x.desk.store out in
    record { plans = r.settings; desk = record { state = r.next; store = x.desk.store } }
after_plan (change c n share ceiling) x = record { plans = (change_for x.plans c n share ceiling).next; desk = x.desk }

unfoldable pub run_plan : List Ask → PlanDesk → PlanDesk
run_plan [] x = x
run_plan (a ∷ rest) x = run_plan rest (after_plan a x)

-- what the calls of a run yield, in order
unfoldable pub through : {A : Type 0} → (Ask → PlanDesk → List A) → List Ask → PlanDesk → List A
through t [] x = []
through t (a ∷ rest) x = t a x ++ through t rest (after_plan a x)

-- ---- the run seen from outside: its loads and frames, each with the settings in force for it, and what each answered
unfoldable pub event_by : Ask → PlanDesk → List Event
event_by (give id unit) x = record { act = load x.plans.now id unit; answer = answer_plan (give id unit) x } ∷ []
event_by (write f out) x = record { act = frame (in_force f x.plans).now out; answer = answer_plan (write f out) x } ∷ []
event_by (change c n share ceiling) x = []

abbrev pub log_plan : List Ask → PlanDesk → List Event
log_plan asks x = through event_by asks x

-- ---- the frames that were accepted, in order: the counts that they name, and the settings that they are filled by (`frames` of `OneCall` says
-- that they are)
unfoldable pub count_by : Ask → PlanDesk → List ℕ
count_by (give id unit) x = []
count_by (write f out) x = pick (eqb (answer_plan (write f out) x).number 0) (f ∷ []) []
count_by (change c n share ceiling) x = []

abbrev pub counts_in : List Ask → PlanDesk → List ℕ
counts_in asks x = through count_by asks x

unfoldable pub set_by : Ask → PlanDesk → List Settings
set_by (give id unit) x = []
set_by (write f out) x = pick (eqb (answer_plan (write f out) x).number 0) ((in_force f x.plans).now ∷ []) []
set_by (change c n share ceiling) x = []

abbrev pub sets_in : List Ask → PlanDesk → List Settings
sets_in asks x = through set_by asks x

-- the place of the first c among counts; how many there are where it is none of them
unfoldable pub first_of : ℕ → List ℕ → ℕ
first_of c [] = 0
first_of c (f ∷ fs) = pick (eqb c f) 0 (suc (first_of c fs))

-- ---- no change is accepted
abbrev pub Stays : Ask → PlanDesk → Type 0
Stays (give id unit) x = Unit {0}
Stays (write f out) x = Unit {0}
Stays (change c n share ceiling) x = (answer_plan (change c n share ceiling) x).number ≡ 0 → ⊥

abbrev pub Unchanged : List Ask → PlanDesk → Type 0
Unchanged [] x = Unit {0}
Unchanged (a ∷ rest) x = Stays a x × Unchanged rest (after_plan a x)
