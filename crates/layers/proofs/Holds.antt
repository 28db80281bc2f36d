-- Condition C, delivery and fair spares hold of the calls as they are: the same calls get the same answers as in 01. Assumes nothing.
use Prim.Native.Nat.{ℕ, ◌<◌, ◌≤◌}
use mathlib.Core.Path.{◌≡◌, refl, sym, ap, ◌∙◌, subst}
use mathlib.Core.List.{List, [], ◌∷◌, ◌++◌, append-nil}
use lib.ListN.{length}
use Rattle.hand.specs.declared.Settings.{Settings}
use Rattle.queue.specs.Queue.{add_up, same, over}
use Rattle.sender.specs.Kept.{stored_of}
use Rattle.sender.specs.Rings.{kept_of, ring_load_number, ring_load_for}
use Rattle.sender.proofs.Checks.{entering_of}
use Rattle.demand.specs.Bytes.{of_id, saying}
use Rattle.demand.specs.Run.{Act, load, Steady}
use Rattle.demand.specs.Log.{Event, events, sent_of, shares_of, Stands, waiting_at}
use Rattle.demand.specs.Condition.{Condition, Taken, Ends, waiting_with}
use Rattle.demand.proofs.Carried.{condition_carried, reports_carried, stream_carried}
use Rattle.delivery.proofs.Carried.{delivery_carried}
use Rattle.fair.proofs.Logged.{fair_carried}
use Rattle.layers.specs.KeptRun.{fresh_kept_desk, answers_kept, log_kept}
use Rattle.layers.specs.Run.{RingDesk, fresh_ring_desk, after_ring, run_ring, answer_ring, answers_ring, log_ring}
use Rattle.layers.specs.Holds.{Holds, ItHolds, SentByField, ByField, DemandByField}
use Rattle.layers.proofs.Without.{stands_upto}
use Rattle.layers.proofs.KeptCounts.{fresh_answers, steady_stands, acts_with, steady_with, run_with}
use Rattle.layers.proofs.Rings.{log_is, stands_is}
use Rattle.layers.proofs.Counts.{display_is_true}
use Rattle.layers.proofs.Between.{holds_all}

-- ---- p unchanged
steady_holds : (p : ℕ) (acts : List Act) (store : List ℕ) → length store ≡ 12288 → Steady p acts → Holds p (log_kept acts (fresh_kept_desk store))
steady_holds p acts store hs st =
    let bs = answers_kept acts (fresh_kept_desk store) in
    let e = sym (fresh_answers p acts store st) in
    let k = steady_stands p acts bs st in
    record {
      condition = condition_carried p acts store hs bs e k;
      reported = reports_carried p acts store hs bs e k;
      stream = stream_carried p acts store hs bs e k;
      delivery = delivery_carried p acts store hs bs e k;
      fair = fair_carried p acts store hs bs e k;
    }

-- ---- refused calls with another p between
kept_holds : (p : ℕ) (acts : List Act) (store : List ℕ) → length store ≡ 12288 → Stands p (log_kept acts (fresh_kept_desk store)) → Holds p (log_kept acts (fresh_kept_desk store))
kept_holds p acts store hs st =
    let x = fresh_kept_desk store in
    holds_all p (log_kept acts x) st (subst (Holds p) (run_with p acts x st).0 (steady_holds p (acts_with p acts) store hs (steady_with p acts)))

-- ---- rings have the same log
pub it_holds : ItHolds
it_holds p acts store hs st = subst (Holds p) (log_is acts store) (kept_holds p acts store hs (stands_is acts store p st))

-- ---- demand 3 by the field
log_append : (acts more : List Act) (x : RingDesk) → log_ring (acts ++ more) x ≡ log_ring acts x ++ log_ring more (run_ring acts x)
unfolding answers_ring run_ring events
log_append [] more x = refl
log_append (a ∷ acts) more x = ap (λ (es : List Event). record { act = a; answer = answer_ring a x } ∷ es) (log_append acts more (after_ring a x))

run_append : (acts more : List Act) (x : RingDesk) → run_ring (acts ++ more) x ≡ run_ring more (run_ring acts x)
unfolding run_ring
run_append [] more x = refl
run_append (a ∷ acts) more x = run_append acts more (after_ring a x)

module _ (p : ℕ) (first : List Act) (g : Settings) (id : ℕ) (unit : List ℕ) (next : List Act) (store : List ℕ) (hs : length store ≡ 12288)
    (st : Stands p (log_ring (first ++ (load g id unit ∷ next)) (fresh_ring_desk store))) (z : (answer_ring (load g id unit) (run_ring first (fresh_ring_desk store))).number ≡ 0) where
  abbrev x : RingDesk
  x = fresh_ring_desk store

  abbrev y : RingDesk
  y = run_ring first x

  abbrev e : Event
  e = record { act = load g id unit; answer = answer_ring (load g id unit) y }

  hid : id < 3
  unfolding answer_ring ring_load_for ring_load_number
  hid = (entering_of g y.state id (length unit) (length y.store) z).unit.id_in

  -- the desk right after the load
  abbrev w : RingDesk
  w = run_ring (first ++ (load g id unit ∷ [])) x

  desk_is : after_ring (load g id unit) y ≡ w
  unfolding run_ring
  desk_is = sym (run_append first (load g id unit ∷ []) x)

  there : log_ring (first ++ (load g id unit ∷ next)) x ≡ log_ring first x ++ (e ∷ (log_ring next w ++ []))
  unfolding answers_ring events
  there =
      log_append first (load g id unit ∷ next) x
      ∙ ap (λ (v : RingDesk). log_ring first x ++ (e ∷ log_ring next v)) desk_is
      ∙ ap (λ (es : List Event). log_ring first x ++ (e ∷ es)) (sym (append-nil (log_ring next w)))

  u : Taken (log_ring (first ++ (load g id unit ∷ next)) x)
  u =
      record {
        before = log_ring first x;
        g = g;
        id = id;
        unit = unit;
        answer = answer_ring (load g id unit) y;
        next = log_ring next w;
        behind = [];
        there = there;
        done = z;
      }

  -- the log up to it
  then_is : log_ring (first ++ (load g id unit ∷ [])) x ≡ log_ring first x ++ (e ∷ [])
  unfolding answers_ring events
  then_is = log_append first (load g id unit ∷ []) x

  then_stands : Stands p (log_ring (first ++ (load g id unit ∷ [])) x)
  then_stands = subst (Stands p) (sym then_is) (stands_upto p (log_ring first x) e [] (log_ring next w ++ []) (subst (Stands p) there st))

  -- k of the log is the field
  field : waiting_with p u ≡ stored_of (kept_of w.state) id
  unfolding answers_ring events u
  field =
      ap (waiting_at p id) (sym then_is) ∙ sym (display_is_true p (first ++ (load g id unit ∷ [])) store hs then_stands id hid)

  c : Condition p (log_ring (first ++ (load g id unit ∷ next)) x)
  c = (it_holds p (first ++ (load g id unit ∷ next)) store hs st).condition

  sent : Ends p unit (waiting_with p u) (saying (of_id p id (sent_of (log_ring next w)))) → SentByField p first g id unit next store
  sent = subst (λ (k : ℕ). Ends p unit k (saying (of_id p id (sent_of (log_ring next w))))) field

  by_field : ByField p first g id unit next store
  unfolding u
  by_field = record {
    delay = λ s n h es hn. sent (c.delay u s n h es (subst (λ (k : ℕ). over k s ≤ n) (sym field) hn));
    by_shares = λ hn. sent (c.by_shares u (subst (λ (k : ℕ). k ≤ add_up same (shares_of id (log_ring next w))) (sym field) hn));
  }

pub demand_by_field : DemandByField
demand_by_field = by_field
