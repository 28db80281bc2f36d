-- Condition C, delivery and fair spares over runs in which loads, frames, refused calls and changes of settings come in any order (02, E10).
-- p never changes in such a run, so that "p unchanged" is no premise. Assumes nothing.
use Rattle.std.specs.Prelude.{ℕ, ◌+◌, ◌-◌, ◌*◌, ◌≤◌, ◌<◌, ◌≡◌, List, [], ◌∷◌, ◌++◌, not, ltb, eqb, length, replicate}
use Rattle.laws.specs.Limits.{longest}
use Rattle.laws.specs.Pick.{pick}
use Rattle.laws.specs.Refuse.{test, refused_with}
use Rattle.hand.specs.Settings.{settings_for}
use Rattle.hand.specs.declared.Three.{Three}
use Rattle.plans.specs.Plans.{set_with, plans_for, in_force}
use Rattle.plans.specs.declared.Plans.{Plans}
use Rattle.queue.specs.Queue.{add_up, same, over}
use Rattle.row.specs.Content.{rests}
use Rattle.sender.specs.Kept.{stored_of}
use Rattle.sender.specs.Rings.{kept_of}
use Rattle.demand.specs.Bytes.{of_id, saying}
use Rattle.demand.specs.Log.{accepted_of, sent_of, shares_of, waiting_at}
use Rattle.demand.specs.Condition.{Ends, full_at}
use Rattle.layers.specs.Holds.{Holds}
use Rattle.layers.specs.Rings.{left_in_ring, Pending}
use Rattle.plan_runs.specs.Run.{Ask, give, write, change, PlanDesk, fresh_plan_desk, answer_plan, run_plan, log_plan}

-- ---- a run of these calls from fresh with record g, and the desk x that it leaves
module _ (g : Plans) (asks : List Ask) (store : List ℕ) where
  abbrev x : PlanDesk
  x = run_plan asks (fresh_plan_desk g store)

  pub record Runs : Type 0 where
    -- all of C, what frames report, the stream, delivery and fair spares, of its loads and frames with the settings in force for each: so each
    -- frame is read by its own N, shares and ceilings
    pub holds : Holds g.now.p (log_plan asks (fresh_plan_desk g store))
    -- the stored counts are what one counts who sees only the calls and their answers; what is pending stands in the store
    pub display : (id : ℕ) → id < 3 → stored_of (kept_of x.desk.state) id ≡ waiting_at g.now.p id (log_plan asks (fresh_plan_desk g store))
    pub pending : (id : ℕ) → id < 3 → Pending g.now.p id (log_plan asks (fresh_plan_desk g store)) x.desk
    -- the record stays within the limits, and p as it was
    pub allowed : plans_for x.plans ≡ 0
    pub p_stays : x.plans.now.p ≡ g.now.p
    -- what comes next is refused only for what is newly handed in, and a load for want of room. A frame: with 1, for an output under N (p + 3)
    -- bytes of the set in force
    pub frames : (f : ℕ) (out : List ℕ)
        → (answer_plan (write f out) x).number ≡ pick (ltb (length out) ((in_force f x.plans).now.n * ((in_force f x.plans).now.p + 3))) 1 0
    pub loads : (id : ℕ) (unit : List ℕ)
        → (answer_plan (give id unit) x).number
        ≡ refused_with
        (test (ltb longest (length unit)) 1 ∷ test (eqb (length unit) 0) 14 ∷ test (ltb 4096 (length unit)) 14 ∷ test (ltb 2 id) 14
        ∷ test (full_at g.now.p id (length unit) (log_plan asks (fresh_plan_desk g store))) 15 ∷ [])
    -- a change: with 13, for the set that it brings
    pub changes : (c n : ℕ) (share ceiling : Three)
        → (answer_plan (change c n share ceiling) x).number ≡ pick (not (eqb (settings_for (set_with x.plans n share ceiling)) 0)) 13 0
    -- so no call meets 17
    pub never_17 : (a : Ask) → (answer_plan a x).number ≡ 17 → ⊥

-- ---- demand 3, read with the settings of each frame: a unit is accepted after the calls `first`, and k is the count then stored for its queue
module _ (g : Plans) (first : List Ask) (id : ℕ) (unit : List ℕ) (next : List Ask) (store : List ℕ) where
  -- the desk right after the load
  abbrev then : PlanDesk
  then = run_plan (first ++ (give id unit ∷ [])) (fresh_plan_desk g store)

  abbrev k : ℕ
  k = stored_of (kept_of then.desk.state) id

  -- within the calls next after it, the first k packets of its id end with those of the unit
  abbrev pub SentInTime : Type 0
  SentInTime = Ends g.now.p unit k (saying (of_id g.now.p id (sent_of (log_plan next then))))

  pub record InTime : Type 0 where
    -- once the shares in force of the frames since then add up to k
    pub by_shares : k ≤ add_up same (shares_of id (log_plan next then)) → SentInTime
    -- so, while its share is s, within k / s frames, rounded up
    pub delay : (s n : ℕ) → 1 ≤ s → shares_of id (log_plan next then) ≡ replicate n s → over k s ≤ n → SentInTime

-- ---- and from any desk of such a run on, which the calls `first` have left, over the calls next: the packets that wait in queue id are the count
-- stored for it there
module _ (g : Plans) (first : List Ask) (id : ℕ) (next : List Ask) (store : List ℕ) where
  abbrev from : PlanDesk
  from = run_plan first (fresh_plan_desk g store)

  abbrev held : ℕ
  held = stored_of (kept_of from.desk.state) id

  -- once the shares in force add up to it the queue holds only units accepted since: what is left of these behind the packets of its id that came
  -- after the first so many
  abbrev pub Cleared : Type 0
  Cleared = held ≤ add_up same (shares_of id (log_plan next from))
      → left_in_ring (run_plan next from).desk id
      ≡ rests g.now.p (length (of_id g.now.p id (sent_of (log_plan next from))) - held) (accepted_of id (log_plan next from))

-- from an allowed record
pub record PlansHold : Type 0 where
  pub runs : (g : Plans) (asks : List Ask) (store : List ℕ) → plans_for g ≡ 0 → length store ≡ 12288 → Runs g asks store
  pub demand : (g : Plans) (first : List Ask) (id : ℕ) (unit : List ℕ) (next : List Ask) (store : List ℕ) → plans_for g ≡ 0 → length store ≡ 12288
      → (answer_plan (give id unit) (run_plan first (fresh_plan_desk g store))).number ≡ 0 → InTime g first id unit next store
  pub clears : (g : Plans) (first : List Ask) (id : ℕ) (next : List Ask) (store : List ℕ) → plans_for g ≡ 0 → length store ≡ 12288 → id < 3
      → Cleared g first id next store
