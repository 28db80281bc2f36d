-- Runs in which every call brings a record of its own, as a host does that goes over to another p, or works its record out itself (02, E10).
-- Assumes nothing.
use Rattle.std.specs.Prelude.{ℕ, ◌≡◌, List, [], ◌∷◌, ◌++◌, eqb, length}
use Rattle.laws.specs.Pick.{pick}
use Rattle.plans.specs.Plans.{plans_for}
use Rattle.plans.specs.declared.Plans.{Plans}
use Rattle.demand.specs.Log.{Event, Stands}
use Rattle.layers.specs.Run.{RingDesk, fresh_ring_desk}
use Rattle.layers.specs.Holds.{Holds}
use Rattle.plan_runs.specs.Run.{Ask, PlanDesk, after_plan, event_by}

-- a call and the record that it brings
abbrev pub Own : Type 0
Own = Plans × Ask

-- its desk: its own record, and what the last call left of state and store
abbrev pub on_desk : Own → RingDesk → PlanDesk
on_desk o y = record { plans = o.0; desk = y }

-- the run seen from outside, as `log_plan`. A call by a record that is not accepted is 13 and changes nothing; it is no event
unfoldable pub log_own : List Own → RingDesk → List Event
log_own [] y = []
log_own (o ∷ rest) y = pick (eqb (plans_for o.0) 0) (event_by o.1 (on_desk o y)) [] ++ log_own rest (after_plan o.1 (on_desk o y)).desk

-- from fresh where p stands: all of C, what frames report, the stream, delivery and fair spares, each call with the settings in force for it
abbrev pub OwnHold : Type 0
OwnHold = (p : ℕ) (calls : List Own) (store : List ℕ) → length store ≡ 12288 → Stands p (log_own calls (fresh_ring_desk store)) → Holds p (log_own calls (fresh_ring_desk store))
