-- Condition C (the tender's demand 3), of a run: of its calls and what each answered. Nothing else is looked at. Assumes nothing.
use Rattle.std.specs.Prelude.{ℕ, ◌+◌, ◌*◌, ◌<◌, ◌≤◌, min, ◌≡◌, List, [], ◌∷◌, ◌++◌, map, Bool, false, not, ◌||◌, ◌↔◌, ltb, leb, eqb, length, replicate}
use Rattle.laws.specs.Limits.{longest}
use Rattle.laws.specs.Refuse.{test, refused_with}
use Rattle.hand.specs.Settings.{at, settings_for, Allowed}
use Rattle.hand.specs.declared.Settings.{Settings}
use Rattle.packet.specs.Packet.{Chunk}
use Rattle.queue.specs.Queue.{add_up, same, packets, over}
use Rattle.row.specs.Content.{chunks}
use Rattle.demand.specs.Bytes.{split, of_id, saying}
use Rattle.demand.specs.Run.{Act, load, frame, Answer, settings_of}
use Rattle.demand.specs.Log.{Event, sent_of, shares_of, left_of, waiting_at}

-- ---- the calls of a run
-- one of them
pub record Called (es : List Event) : Type 0 where
  pub before : List Event
  pub act : Act
  pub answer : Answer
  pub behind : List Event
  pub there : es ≡ before ++ (record { act = act; answer = answer } ∷ behind)

-- a frame that was written
pub record Written (es : List Event) : Type 0 where
  pub before : List Event
  pub g : Settings
  pub lent : List ℕ
  pub answer : Answer
  pub behind : List Event
  pub there : es ≡ before ++ (record { act = frame g lent; answer = answer } ∷ behind)
  pub done : answer.number ≡ 0

-- the packets of id in it, counted in its output
abbrev pub carries : {es : List Event} → Written es → ℕ → ℕ
carries f id = length (of_id f.g.p id (split (f.g.p + 3) f.g.n f.answer.out))

-- a unit that was accepted, and the calls next after it
pub record Taken (es : List Event) : Type 0 where
  pub before : List Event
  pub g : Settings
  pub id : ℕ
  pub unit : List ℕ
  pub answer : Answer
  pub next : List Event
  pub behind : List Event
  pub there : es ≡ before ++ (record { act = load g id unit; answer = answer } ∷ (next ++ behind))
  pub done : answer.number ≡ 0

-- the packets that wait in its queue then, its own included
abbrev pub waiting_with : {es : List Event} → ℕ → Taken es → ℕ
waiting_with p u = waiting_at p u.id (u.before ++ (record { act = load u.g u.id u.unit; answer = u.answer } ∷ []))

-- ---- what packets carry
-- a unit in packets of p bytes; joined they are the unit (`pieces_join`)
abbrev pub pieces_of : ℕ → List ℕ → List Chunk
pieces_of p unit = chunks p (packets p (length unit)) false (unit ∷ [])

-- the bytes that packets carry, one behind the other
unfoldable pub joined : List Chunk → List ℕ
joined [] = []
joined (c ∷ cs) = c.body ++ joined cs

-- the first k pieces end with the unit, whole and in order
pub record Ends (p : ℕ) (unit : List ℕ) (k : ℕ) (cs : List Chunk) : Type 0 where
  pub front : List Chunk
  pub behind : List Chunk
  pub there : cs ≡ front ++ (pieces_of p unit ++ behind)
  pub place : length front + length (pieces_of p unit) ≡ k

-- within the calls next after it, the first k packets of its id end with those of the unit, k having waited
abbrev pub SentWithin : {es : List Event} → ℕ → Taken es → Type 0
SentWithin p u = Ends p u.unit (waiting_with p u) (saying (of_id p u.id (sent_of u.next)))

-- ---- refusals
-- no room for n bytes more in queue id: eight of its units are unfinished, or n plus its bytes not yet sent is over 4,096
unfoldable pub full_at : ℕ → ℕ → ℕ → List Event → Bool
full_at p id n es = leb 8 (length (left_of p id es)) || ltb 4096 (n + add_up same (map length (left_of p id es)))

-- the number of a frame, by what is newly handed in
unfoldable pub frame_refused : Settings → List ℕ → ℕ
frame_refused g out = refused_with (test (not (eqb (settings_for g) 0)) 13 ∷ test (ltb (length out) (g.n * (g.p + 3))) 1 ∷ [])

-- that of a load, by what is newly handed in and whether its queue is full
unfoldable pub load_refused : Settings → ℕ → ℕ → Bool → ℕ
load_refused g id n full =
    refused_with
    (test (not (eqb (settings_for g) 0)) 13 ∷ test (ltb longest n) 1 ∷ test (eqb n 0) 14 ∷ test (ltb 4096 n) 14 ∷ test (ltb 2 id) 14
    ∷ test full 15 ∷ [])

-- ---- the condition, of a run in which p stands
pub record Condition (p : ℕ) (es : List Event) : Type 0 where
  -- (1) each frame carries at least the smaller of share and waiting packets of each queue
  pub share : (f : Written es) (id : ℕ) → id < 3 → min (at f.g.share id) (waiting_at p id f.before) ≤ carries f id
  -- (2) never more than its ceiling
  pub ceiling : (f : Written es) (id : ℕ) → id < 3 → carries f id ≤ at f.g.ceiling id
  -- (3) filler only where each queue is empty then or at its ceiling
  pub filler : (f : Written es) → 1 ≤ carries f 3 → (id : ℕ) → id < 3 → carries f id ≡ min (waiting_at p id f.before) (at f.g.ceiling id)
  -- (4) a unit accepted with k packets then waiting in its queue, its own included, is wholly sent within the next k / s frames, rounded up,
  -- that have share s for its queue, whatever else is called
  pub delay : (u : Taken es) (s n : ℕ) → 1 ≤ s → shares_of u.id u.next ≡ replicate n s → over (waiting_with p u) s ≤ n → SentWithin p u
  -- where shares change: once they add up to k
  pub by_shares : (u : Taken es) → waiting_with p u ≤ add_up same (shares_of u.id u.next) → SentWithin p u
  -- (5) no call is refused for what the last one left: never 17, and a frame only for what is newly handed in
  pub never_17 : (c : Called es) → (settings_of c.act).p ≡ p → c.answer.number ≡ 17 → ⊥
  pub frames : (c : Called es) (g : Settings) (out : List ℕ) → c.act ≡ frame g out → g.p ≡ p → c.answer.number ≡ frame_refused g out
  -- (6) a load only for that or for want of room: a unit that fits is accepted exactly if its length plus its queue's bytes not yet sent is at
  -- most 4,096 and fewer than eight of its units are unfinished
  pub loads : (c : Called es) (g : Settings) (id : ℕ) (unit : List ℕ) → c.act ≡ load g id unit → g.p ≡ p
      → c.answer.number ≡ load_refused g id (length unit) (full_at p id (length unit) c.before)
  pub room : (c : Called es) (g : Settings) (id : ℕ) (unit : List ℕ) → c.act ≡ load g id unit → g.p ≡ p → Allowed g → 1 ≤ length unit
      → length unit ≤ 4096 → id ≤ 2
      → (c.answer.number ≡ 0) ↔ ((length unit + add_up same (map length (left_of p id c.before)) ≤ 4096) × (length (left_of p id c.before) < 8))
