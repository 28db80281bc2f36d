-- Condition C, delivery and fair spares over runs in which settings change: such a run is one of the sender's calls with p unchanged, and the
-- theorems of layers are theirs. Assumes nothing.
use Prim.Native.Nat.{ℕ, ◌*◌, ◌+◌, ◌<◌, ◌≤◌}
use mathlib.Core.Path.{◌≡◌, refl, sym, ap, ◌∙◌, subst}
use mathlib.Core.List.{List, [], ◌∷◌, ◌++◌}
use mathlib.Core.Bool.{Bool, true, false, not}
use native.Mathlib.Omega.{arith}
use lib.Dec.{ltb, eqb}
use lib.ListN.{length, replicate}
use Rattle.laws.specs.Limits.{longest}
use Rattle.laws.specs.Pick.{pick}
use Rattle.laws.specs.Refuse.{test, refused_with}
use Rattle.hand.specs.Settings.{settings_for}
use Rattle.hand.specs.declared.Three.{Three}
use Rattle.hand.proofs.Allowed.{allowed}
use Rattle.plans.specs.Plans.{set_with, plans_for, in_force, change_tests, change_for}
use Rattle.plans.specs.declared.Plans.{Plans}
use Rattle.queue.specs.Queue.{add_up, same, over}
use Rattle.sender.specs.Kept.{stored_of}
use Rattle.sender.specs.Rings.{kept_of}
use Rattle.demand.specs.Run.{Act, load, frame, Answer}
use Rattle.demand.specs.Bytes.{of_id, saying}
use Rattle.demand.specs.Log.{Event, Stands, sent_of, shares_of, left_of, waiting_at}
use Rattle.demand.specs.Condition.{Condition, Ends, full_at, frame_refused, load_refused}
use Rattle.layers.specs.Run.{RingDesk, fresh_ring_desk, run_ring, answer_ring, log_ring}
use Rattle.layers.specs.Rings.{left_in_ring, Pending}
use Rattle.layers.specs.Holds.{Holds, ByField}
use Rattle.layers.proofs.Holds.{it_holds, demand_by_field}
use Rattle.layers.proofs.Counts.{display_is_true}
use Rattle.layers.proofs.Pending.{pending_stands}
use Rattle.plan_runs.specs.Run.{Ask, give, write, change, PlanDesk, fresh_plan_desk, answer_plan, after_plan, run_plan, through, event_by, log_plan}
use Rattle.plan_runs.specs.Holds.{Runs, InTime, Cleared, PlansHold}
use Rattle.plan_runs.proofs.Record.{Fine, fine, fine_back, force_p, force_fine, after_fine}
use Rattle.plan_runs.proofs.Rings.{given, asked, as_rings, stands, steady}
use Rattle.plan_runs.proofs.Append.{run_p, run_fine, run_append, log_append, asked_append}
use Rattle.plan_runs.proofs.Cleared.{cleared}

neither : (a : Bool) (m x : ℕ) → (m ≡ 17 → ⊥) → (x ≡ 17 → ⊥) → pick a m x ≡ 17 → ⊥
neither true m x hm hx = hm
neither false m x hm hx = hx

-- ---- from fresh, with an allowed record
module _ (g : Plans) (store : List ℕ) (h : plans_for g ≡ 0) (hs : length store ≡ 12288) where
  abbrev fresh : PlanDesk
  fresh = fresh_plan_desk g store

  abbrev p : ℕ
  p = g.now.p

  log_is : (asks : List Ask) → log_plan asks fresh ≡ log_ring (asked asks fresh) (fresh_ring_desk store)
  log_is asks = (as_rings asks fresh (fine g h)).log

  desk_is : (asks : List Ask) → (run_plan asks fresh).desk ≡ run_ring (asked asks fresh) (fresh_ring_desk store)
  desk_is asks = (as_rings asks fresh (fine g h)).desk

  ring_stands : (asks : List Ask) → Stands p (log_ring (asked asks fresh) (fresh_ring_desk store))
  ring_stands asks = subst (Stands p) (log_is asks) (stands asks fresh)

  holds : (asks : List Ask) → Holds p (log_plan asks fresh)
  holds asks = subst (Holds p) (sym (log_is asks)) (it_holds p (asked asks fresh) store hs (ring_stands asks))

  display : (asks : List Ask) (id : ℕ) → id < 3 → stored_of (kept_of (run_plan asks fresh).desk.state) id ≡ waiting_at p id (log_plan asks fresh)
  display asks id k =
      ap (λ (d : RingDesk). stored_of (kept_of d.state) id) (desk_is asks)
      ∙ display_is_true p (asked asks fresh) store hs (ring_stands asks) id k ∙ ap (waiting_at p id) (sym (log_is asks))

  pending : (asks : List Ask) (id : ℕ) → id < 3 → Pending p id (log_plan asks fresh) (run_plan asks fresh).desk
  pending asks id k =
      subst (λ (es : List Event). Pending p id es (run_plan asks fresh).desk) (sym (log_is asks))
      (subst (Pending p id (log_ring (asked asks fresh) (fresh_ring_desk store))) (sym (desk_is asks))
      (pending_stands p (asked asks fresh) store hs (ring_stands asks) id k))

  -- ---- the call after a run
  module _ (asks : List Ask) where
    abbrev x : PlanDesk
    x = run_plan asks fresh

    next_is : (a : Ask) → log_plan (asks ++ (a ∷ [])) fresh ≡ log_plan asks fresh ++ (event_by a x ++ [])
    unfolding through
    next_is a = log_append asks (a ∷ []) fresh

    condition : (a : Ask) → Condition p (log_plan (asks ++ (a ∷ [])) fresh)
    condition a = (holds (asks ++ (a ∷ []))).condition

    x_fine : Fine x.plans
    x_fine = run_fine asks fresh (fine g h)

    frames : (f : ℕ) (out : List ℕ)
        → (answer_plan (write f out) x).number ≡ pick (ltb (length out) ((in_force f x.plans).now.n * ((in_force f x.plans).now.p + 3))) 1 0
    unfolding event_by frame_refused
    frames f out =
        (condition (write f out)).frames
        (record { before = log_plan asks fresh; act = frame (in_force f x.plans).now out; answer = answer_plan (write f out) x; behind = []; there = next_is (write f out) })
        (in_force f x.plans).now out refl (force_p f x.plans ∙ run_p asks fresh)
        ∙ simp (force_fine f x.plans x_fine).first

    loads : (id : ℕ) (unit : List ℕ)
        → (answer_plan (give id unit) x).number
        ≡ refused_with
        (test (ltb longest (length unit)) 1 ∷ test (eqb (length unit) 0) 14 ∷ test (ltb 4096 (length unit)) 14 ∷ test (ltb 2 id) 14
        ∷ test (full_at p id (length unit) (log_plan asks fresh)) 15 ∷ [])
    unfolding event_by load_refused
    loads id unit =
        (condition (give id unit)).loads
        (record { before = log_plan asks fresh; act = load x.plans.now id unit; answer = answer_plan (give id unit) x; behind = []; there = next_is (give id unit) })
        x.plans.now id unit refl (run_p asks fresh)
        ∙ simp x_fine.first

    changes : (c n : ℕ) (share ceiling : Three)
        → (answer_plan (change c n share ceiling) x).number ≡ pick (not (eqb (settings_for (set_with x.plans n share ceiling)) 0)) 13 0
    unfolding answer_plan change_for change_tests
    changes c n share ceiling = simp (fine_back x.plans x_fine)

    -- none of these numbers is 17
    never_17 : (a : Ask) → (answer_plan a x).number ≡ 17 → ⊥
    never_17 (write f out) e =
        neither (ltb (length out) ((in_force f x.plans).now.n * ((in_force f x.plans).now.p + 3))) 1 0 (λ z. omega arith) (λ z. omega arith)
        (sym (frames f out) ∙ e)
    never_17 (change c n share ceiling) e =
        neither (not (eqb (settings_for (set_with x.plans n share ceiling)) 0)) 13 0 (λ z. omega arith) (λ z. omega arith)
        (sym (changes c n share ceiling) ∙ e)
    never_17 (give id unit) e =
        neither (ltb longest (length unit)) 1 _ (λ z. omega arith)
        (neither (eqb (length unit) 0) 14 _ (λ z. omega arith)
        (neither (ltb 4096 (length unit)) 14 _ (λ z. omega arith)
        (neither (ltb 2 id) 14 _ (λ z. omega arith)
        (neither (full_at p id (length unit) (log_plan asks fresh)) 15 0 (λ z. omega arith) (λ z. omega arith)))))
        (sym (loads id unit) ∙ e)

  pub run_holds : (asks : List Ask) → Runs g asks store
  run_holds asks = record {
    holds = holds asks;
    display = display asks;
    pending = pending asks;
    allowed = fine_back (run_plan asks fresh).plans (run_fine asks fresh (fine g h));
    p_stays = run_p asks fresh;
    frames = frames asks;
    loads = loads asks;
    changes = changes asks;
    never_17 = never_17 asks;
  }

  -- ---- from any desk of a run on
  module _ (first : List Ask) (id : ℕ) (hid : id < 3) (next : List Ask) where
    clears : Cleared g first id next store
    clears hk =
        let y = run_plan first fresh in
        ap (λ (v : PlanDesk). left_in_ring v.desk id) (sym (run_append first next fresh)) ∙ (pending (first ++ next) id hid).left
        ∙ ap (left_of p id) (log_append first next fresh)
        ∙ cleared p id (asked first fresh) (asked next y) store (allowed g.now (fine g h).first).low hid hs (steady p first fresh refl) (steady p next y (run_p first fresh))
        (log_plan first fresh) (log_plan next y)
        (sym (log_append first next fresh) ∙ log_is (first ++ next) ∙ ap (λ (acts : List Act). log_ring acts (fresh_ring_desk store)) (asked_append first next fresh))
        (log_is first) _ (display first id hid) hk

  -- ---- demand 3
  module _ (first : List Ask) (id : ℕ) (unit : List ℕ) (next : List Ask) (z : (answer_plan (give id unit) (run_plan first fresh)).number ≡ 0) where
    -- the desk before the load, and after it
    abbrev y : PlanDesk
    y = run_plan first fresh

    abbrev w : PlanDesk
    w = after_plan (give id unit) y

    -- the same run, of the sender's calls
    abbrev before : List Act
    before = asked first fresh

    abbrev behind : List Act
    behind = asked next w

    all_is : asked (first ++ (give id unit ∷ next)) fresh ≡ before ++ (load y.plans.now id unit ∷ behind)
    unfolding asked
    all_is = asked_append first (give id unit ∷ next) fresh

    field : ByField p before y.plans.now id unit behind store
    field =
        demand_by_field p before y.plans.now id unit behind store hs
        (subst (λ (acts : List Act). Stands p (log_ring acts (fresh_ring_desk store))) all_is (ring_stands (first ++ (give id unit ∷ next))))
        (ap (λ (d : RingDesk). (answer_ring (load y.plans.now id unit) d).number) (sym (desk_is first))
        ∙ sym (ap (λ (b : Answer). b.number) (given y (fine_back y.plans (run_fine first fresh (fine g h))) id unit).answer) ∙ z)

    abbrev then : PlanDesk
    then = run_plan (first ++ (give id unit ∷ [])) fresh

    abbrev ring_then : RingDesk
    ring_then = run_ring (before ++ (load y.plans.now id unit ∷ [])) (fresh_ring_desk store)

    then_is : then ≡ w
    unfolding run_plan
    then_is = run_append first (give id unit ∷ []) fresh

    then_desk : then.desk ≡ ring_then
    unfolding asked
    then_desk =
        desk_is (first ++ (give id unit ∷ []))
        ∙ ap (λ (acts : List Act). run_ring acts (fresh_ring_desk store)) (asked_append first (give id unit ∷ []) fresh)

    next_log : log_plan next then ≡ log_ring behind ring_then
    next_log =
        ap (log_plan next) then_is ∙ (as_rings next w (after_fine (give id unit) y (run_fine first fresh (fine g h)))).log
        ∙ ap (λ (v : PlanDesk). log_ring behind v.desk) (sym then_is) ∙ ap (log_ring behind) then_desk

    -- what holds of the sender's run holds of this one
    carried : (Q : RingDesk → List Event → Type 0) → Q ring_then (log_ring behind ring_then) → Q then.desk (log_plan next then)
    carried Q q = subst (λ (d : RingDesk). Q d (log_plan next then)) (sym then_desk) (subst (Q ring_then) (sym next_log) q)

    abbrev k : RingDesk → ℕ
    k d = stored_of (kept_of d.state) id

    abbrev Sent : RingDesk → List Event → Type 0
    Sent d es = Ends p unit (k d) (saying (of_id p id (sent_of es)))

    pub in_time : InTime g first id unit next store
    in_time = record {
      by_shares = carried (λ d es. k d ≤ add_up same (shares_of id es) → Sent d es) field.by_shares;
      delay = carried (λ d es. (s n : ℕ) → 1 ≤ s → shares_of id es ≡ replicate n s → over (k d) s ≤ n → Sent d es) field.delay;
    }

-- ---- from any desk on
pub plans_hold : PlansHold
plans_hold = record {
  runs = λ g asks store h hs. run_holds g store h hs asks;
  clears = λ g first id next store h hs hid. clears g store h hs first id hid next;
  demand = λ g first id unit next store h hs z. in_time g store h hs first id unit next z;
}
