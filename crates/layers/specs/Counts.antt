-- E1 of 02, the stored counts: they stay right, and where they are right nothing else changes. Of the calls as they are. Assumes nothing.
use Rattle.std.specs.Prelude.{ℕ, ◌<◌, ◌≡◌, List, eqb, length}
use Rattle.laws.specs.Pick.{pick}
use Rattle.hand.specs.Settings.{settings_for}
use Rattle.queue.specs.Queue.{waiting}
use Rattle.sender.specs.State.{queue_of}
use Rattle.sender.specs.Kept.{stored_of}
use Rattle.sender.specs.Rings.{front_of, kept_of}
use Rattle.sender.specs.declared.Sender.{Sender}
use Rattle.demand.specs.Run.{Act, settings_of, after, answer}
use Rattle.demand.specs.Log.{Stands, waiting_at}
use Rattle.layers.specs.KeptRun.{KeptDesk, plain, after_kept}
use Rattle.layers.specs.Run.{RingDesk, fresh_ring_desk, after_ring, run_ring, answer_ring, log_ring}
use Rattle.layers.specs.Rings.{Same}

-- each stored count is the sum over the units of its queue, for packets of p data bytes
abbrev pub Right : ℕ → Sender → Type 0
Right p s = (id : ℕ) → id < 3 → stored_of (kept_of s) id ≡ waiting p (queue_of (front_of s) id)

-- a call gives what 01's call gives of the state without its counts and starts, where the bytes stand as in 01 (x): the number, and of a frame
-- packets, spares, filler and the whole output after it; the state but for these; the store as in 01
pub record Stays (a : Act) (x : KeptDesk) (y : RingDesk) : Type 0 where
  pub answer : answer_ring a y ≡ answer a (plain x)
  pub desk : plain (after_kept a x) ≡ after a (plain x)
  pub desks : Same (after_kept a x) (after_ring a y)

pub record CountsAreKept : Type 0 where
  -- over every sequence of calls from fresh in which p stands; whatever the store and the settings
  pub always : (p : ℕ) (acts : List Act) (store : List ℕ) → Stands p (log_ring acts (fresh_ring_desk store)) → Right p (run_ring acts (fresh_ring_desk store)).state
  -- an accepted call leaves right counts for its p, whatever was before; a refused one leaves all as it came, wrong counts too
  pub accepted : (a : Act) (y : RingDesk) → (answer_ring a y).number ≡ 0 → Right (settings_of a).p (after_ring a y).state
  pub refused : (a : Act) (y : RingDesk) → ((answer_ring a y).number ≡ 0 → ⊥) → after_ring a y ≡ y
  -- all answers of 01 stay where the three counts are right for the call's p, whatever other fault the state has
  pub stays : (a : Act) (x : KeptDesk) (y : RingDesk) → Same x y → Right (settings_of a).p y.state → Stays a x y
  -- where one is not: 13 if the settings are refused, else 17
  pub wrong : (a : Act) (y : RingDesk) → (Right (settings_of a).p y.state → ⊥) → (answer_ring a y).number ≡ pick (eqb (settings_for (settings_of a)) 0) 17 13

-- what the desk display reads is what one counts who sees only the calls and their answers
abbrev pub DisplayIsTrue : Type 0
DisplayIsTrue = (p : ℕ) (acts : List Act) (store : List ℕ) → length store ≡ 12288 → Stands p (log_ring acts (fresh_ring_desk store)) → (id : ℕ) → id < 3
    → stored_of (kept_of (run_ring acts (fresh_ring_desk store)).state) id ≡ waiting_at p id (log_ring acts (fresh_ring_desk store))
