-- A run seen from outside: its calls, and what each answered. Nothing here looks at the state or the store. Assumes nothing.
use Rattle.std.specs.Prelude.{ℕ, ◌+◌, ◌≡◌, List, [], ◌∷◌, ◌++◌, map, eqb, length}
use Rattle.laws.specs.Pick.{pick}
use Rattle.hand.specs.Settings.{at}
use Rattle.queue.specs.Queue.{waits}
use Rattle.row.specs.Content.{rests}
use Rattle.demand.specs.Bytes.{split, of_id}
use Rattle.demand.specs.Run.{Act, load, frame, Desk, settings_of, Answer, answers}

-- a call and its answer
pub record Event : Type 0 where
  pub act : Act
  pub answer : Answer

unfoldable pub events : List Act → List Answer → List Event
events [] bs = []
events (a ∷ acts) [] = []
events (a ∷ acts) (b ∷ bs) = record { act = a; answer = b } ∷ events acts bs

-- the run of calls from what x holds
abbrev pub log : List Act → Desk → List Event
log acts x = events acts (answers acts x)

-- p stands: it is that of every call that was not refused
abbrev pub Stands : ℕ → List Event → Type 0
Stands p [] = Unit {0}
Stands p (e ∷ es) = (e.answer.number ≡ 0 → (settings_of e.act).p ≡ p) × Stands p es

-- what f gives of each call that was not refused, in order
unfoldable pub gather : {A : Type 0} → (Act → Answer → List A) → List Event → List A
gather f [] = []
gather f (e ∷ es) = pick (eqb e.answer.number 0) (f e.act e.answer) [] ++ gather f es

-- ---- the units of queue id that were accepted
unfoldable pub unit_for : ℕ → Act → Answer → List (List ℕ)
unit_for id (load g j unit) b = pick (eqb id j) (unit ∷ []) []
unit_for id (frame g out) b = []

abbrev pub accepted_of : ℕ → List Event → List (List ℕ)
accepted_of id es = gather (unit_for id) es

-- ---- the packets that were written, as they stand in the outputs
unfoldable pub packets_of : Act → Answer → List (List ℕ)
packets_of (load g id unit) b = []
packets_of (frame g out) b = split (g.p + 3) g.n b.out

abbrev pub sent_of : List Event → List (List ℕ)
sent_of es = gather packets_of es

-- ---- the shares of queue id in the frames that were written, one for each
unfoldable pub share_for : ℕ → Act → Answer → List ℕ
share_for id (load g j unit) b = []
share_for id (frame g out) b = at g.share id ∷ []

abbrev pub shares_of : ℕ → List Event → List ℕ
shares_of id es = gather (share_for id) es

-- ---- the units of queue id that are not wholly sent: the bytes left of each, of those accepted, behind the packets of id that were written
unfoldable pub left_of : ℕ → ℕ → List Event → List (List ℕ)
left_of p id es = rests p (length (of_id p id (sent_of es))) (accepted_of id es)

-- and the packets that wait: those that these bytes take
unfoldable pub waiting_at : ℕ → ℕ → List Event → ℕ
waiting_at p id es = waits p (map length (left_of p id es))
