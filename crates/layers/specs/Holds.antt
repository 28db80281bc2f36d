-- Condition C, delivery and fair spares, of the calls as they are. Assumes nothing.
use Rattle.std.specs.Prelude.{ℕ, ◌≤◌, ◌≡◌, List, [], ◌∷◌, ◌++◌, length, replicate}
use Rattle.hand.specs.declared.Settings.{Settings}
use Rattle.queue.specs.Queue.{add_up, same, over}
use Rattle.sender.specs.Kept.{stored_of}
use Rattle.sender.specs.Rings.{kept_of}
use Rattle.demand.specs.Bytes.{of_id, saying}
use Rattle.demand.specs.Run.{Act, load}
use Rattle.demand.specs.Log.{Event, sent_of, shares_of, Stands}
use Rattle.demand.specs.Condition.{Condition, Ends}
use Rattle.demand.specs.Reported.{Reported}
use Rattle.demand.specs.Stream.{Stream}
use Rattle.delivery.specs.Delivery.{Delivery}
use Rattle.fair.specs.Logged.{FairLog}
use Rattle.layers.specs.Run.{RingDesk, fresh_ring_desk, run_ring, answer_ring, log_ring}

-- what holds of a run, of its calls and what each answered
pub record Holds (p : ℕ) (es : List Event) : Type 0 where
  pub condition : Condition p es
  pub reported : Reported p es
  pub stream : Stream p es
  pub delivery : (buffer : List ℕ) → length buffer ≡ 16384 → Delivery p es buffer
  pub fair : FairLog p es

-- from fresh where p stands: it is that of the calls that were not refused, and the others may have any
abbrev pub ItHolds : Type 0
ItHolds = (p : ℕ) (acts : List Act) (store : List ℕ) → length store ≡ 12288 → Stands p (log_ring acts (fresh_ring_desk store)) → Holds p (log_ring acts (fresh_ring_desk store))

-- demand 3 with k read from the state: a unit is accepted after the calls `first`, and k is the count then stored for its queue
module _ (p : ℕ) (first : List Act) (g : Settings) (id : ℕ) (unit : List ℕ) (next : List Act) (store : List ℕ) where
  -- the desk right after the load
  abbrev then : RingDesk
  then = run_ring (first ++ (load g id unit ∷ [])) (fresh_ring_desk store)

  -- within the calls next after it, the first k packets of its id end with those of the unit
  abbrev pub SentByField : Type 0
  SentByField = Ends p unit (stored_of (kept_of then.state) id) (saying (of_id p id (sent_of (log_ring next then))))

  pub record ByField : Type 0 where
    -- within the next k / s frames, rounded up, that have share s for its queue; where shares change, once they add up to k
    pub delay : (s n : ℕ) → 1 ≤ s → shares_of id (log_ring next then) ≡ replicate n s → over (stored_of (kept_of then.state) id) s ≤ n → SentByField
    pub by_shares : stored_of (kept_of then.state) id ≤ add_up same (shares_of id (log_ring next then)) → SentByField

abbrev pub DemandByField : Type 0
DemandByField = (p : ℕ) (first : List Act) (g : Settings) (id : ℕ) (unit : List ℕ) (next : List Act) (store : List ℕ) → length store ≡ 12288
    → Stands p (log_ring (first ++ (load g id unit ∷ next)) (fresh_ring_desk store)) → (answer_ring (load g id unit) (run_ring first (fresh_ring_desk store))).number ≡ 0
    → ByField p first g id unit next store
