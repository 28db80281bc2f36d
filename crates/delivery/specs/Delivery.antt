-- Delivery (01, the receiver's paragraph), of a run: of its calls and what each answered. A fresh receiver is given the packets, with a buffer
-- of 16,384 bytes. Assumes nothing.
use Rattle.std.specs.Prelude.{ℕ, ◌+◌, ◌-◌, ◌<◌, ◌≤◌, ◌≡◌, List, [], ◌∷◌, ◌++◌, false, length, take, drop, replicate}
use Rattle.queue.specs.Queue.{add_up, same, over}
use Rattle.row.specs.Content.{chunks, rests}
use Rattle.demand.specs.Bytes.{of_id, numbered}
use Rattle.demand.specs.Run.{load}
use Rattle.demand.specs.Log.{Event, accepted_of, sent_of, shares_of}
use Rattle.demand.specs.Condition.{Taken, waiting_with, pieces_of}
use Rattle.demand.specs.Stream.{Fair}
use Rattle.delivery.specs.Delivered.{Ear, fresh_ear, delivered_of}
use Rattle.delivery.specs.Whole.{wholly_sent, delivered_in, pending_in}
use Rattle.delivery.specs.Loss.{Stretch, sent_over, came_over, Short, begins, ends, uncut}

-- after the calls next to an accepted unit, it has come, next after the units of its queue that were accepted before it
abbrev pub HasCome : {es : List Event} → ℕ → Taken es → List ℕ → Type 0
HasCome p u buffer =
    take (length (accepted_of u.id u.before) + 1)
    (delivered_in p u.id (u.before ++ (record { act = load u.g u.id u.unit; answer = u.answer } ∷ u.next)) buffer)
    ≡ accepted_of u.id u.before ++ (u.unit ∷ [])

-- of a run in which p stands
pub record Delivery (p : ℕ) (es : List Event) (buffer : List ℕ) : Type 0 where
  -- the units delivered are those wholly sent, per id in order, byte for byte
  pub come : (id : ℕ) → id < 3 → delivered_in p id es buffer ≡ wholly_sent p id es
  -- what was delivered, and behind it what is pending, is what was accepted
  pub all : (id : ℕ) → id < 3 → delivered_in p id es buffer ++ pending_in p id es buffer ≡ accepted_of id es
  -- filler brings nothing
  pub filler : delivered_in p 3 es buffer ≡ []
  -- a unit accepted with k packets then waiting in its queue, its own included, has come within the next k / s frames, rounded up, that have
  -- share s for its queue; where shares change, once they add up to k
  pub soon : (u : Taken es) (s n : ℕ) → 1 ≤ s → shares_of u.id u.next ≡ replicate n s → over (waiting_with p u) s ≤ n → HasCome p u buffer
  pub by_shares : (u : Taken es) → waiting_with p u ≤ add_up same (shares_of u.id u.next) → HasCome p u buffer
  -- losses of one to seven packets of id at a time, the receiver listening from behind `start` on: the units that no gap cut come, and no others
  pub lost : (id : ℕ) → id < 3 → (start : List (List ℕ)) (ts : List Stretch) (last : List (List ℕ)) → sent_of es ≡ start ++ sent_over ts last → Short p id ts
      → delivered_of p id (fresh_ear buffer) (came_over ts last) ≡ uncut p id (accepted_of id es) start ts last
  -- one such loss, the first packets included: the units that end before it come, then those that begin behind it
  pub gap : (id : ℕ) → id < 3 → (before gone instead behind : List (List ℕ)) → sent_of es ≡ before ++ (gone ++ behind) → 1 ≤ length (of_id p id gone)
      → length (of_id p id gone) ≤ 7 → of_id p id instead ≡ []
      → delivered_of p id (fresh_ear buffer) (before ++ (instead ++ behind))
      ≡ take (ends (of_id p id before)) (accepted_of id es)
      ++ drop (begins (of_id p id (before ++ gone))) (take (ends (of_id p id (before ++ (gone ++ behind)))) (accepted_of id es))

-- A receiver e in whatever state, which missed packets before: what comes of units us of id whose packets are given to it from the first packet
-- of the first on, n of them, with indexes that follow one another. Other ids and damaged packets may come between
pub record Rejoined (p id : ℕ) (e : Ear) : Type 0 where
  -- the units wholly given
  pub units : (ss : List (List ℕ)) (i n : ℕ) (us : List (List ℕ)) → Fair us → of_id p id ss ≡ numbered id i (chunks p n false us)
      → delivered_of p id e ss ≡ take (length us - length (rests p n us)) us
  -- one unit, all of it
  pub one : (ss : List (List ℕ)) (i : ℕ) (u : List ℕ) → 1 ≤ p → 1 ≤ length u → length u ≤ 4096 → of_id p id ss ≡ numbered id i (pieces_of p u)
      → delivered_of p id e ss ≡ u ∷ []
