-- From fresh, where p stands: the state is good, and holds the units that calls and answers show as not wholly sent. Assumes nothing.
use Prim.Native.Nat.{ℕ, zero, suc, ◌*◌, ◌<◌, ◌≤◌}
use mathlib.Core.Path.{◌≡◌, refl, sym, ap, ap₂, ◌∙◌, subst}
use mathlib.Core.List.{List, [], ◌∷◌, ◌++◌, map}
use mathlib.Core.Bool.{false}
use native.Mathlib.Omega.{arith}
use lib.ListN.{length, drop, length-drop, length-map}
use lib.Seq.{length-take-le}
use Rattle.laws.specs.Part.{part_of}
use Rattle.hand.specs.Settings.{at}
use Rattle.queue.specs.Queue.{add_up, same, units, unsent, waits}
use Rattle.queue.specs.Send.{got}
use Rattle.row.specs.Content.{cut, content_of, begun_in, rests}
use Rattle.sender.specs.State.{fresh, queue_of, index_of, waiting_of}
use Rattle.demand.specs.Bytes.{of_id}
use Rattle.demand.specs.Run.{Act, Desk, fresh_desk, run, Steady}
use Rattle.demand.specs.Log.{Event, log, Stands, packets_of, unit_for, left_of, waiting_at}
use Rattle.demand.specs.Within.{history, accepted_in, sent_in, content_in, waiting_in}
use Rattle.demand.proofs.Good.{Good, fresh_good, run_good}
use Rattle.demand.proofs.Served.{waits_at}
use Rattle.demand.proofs.Packets.{numbered_length}
use Rattle.demand.proofs.Chunks.{chunks_length}
use Rattle.demand.proofs.Demand.{pieces, run_content}
use Rattle.demand.proofs.Seen.{accepted_seen, sent_seen, taken, taken_run, taken_gather, taken_steady}

-- ---- fresh
pub record Fresh (id : ℕ) (store : List ℕ) : Type 0 where
  pub content : content_in id (fresh_desk store) ≡ []
  pub begun : begun_in (queue_of fresh id) ≡ false
  pub index : index_of fresh id ≡ 0

pub fresh_is : (id : ℕ) (store : List ℕ) → id < 3 → Fresh id store
unfolding fresh content_in content_of cut begun_in
fresh_is zero store h = record { content = refl; begun = refl; index = refl }
fresh_is (suc zero) store h = record { content = refl; begun = refl; index = refl }
fresh_is (suc (suc zero)) store h = record { content = refl; begun = refl; index = refl }
fresh_is (suc (suc (suc id))) store h = absurd (omega arith)

-- ---- the lengths of what is held
cut_lengths : (xs s : List ℕ) → add_up same xs ≤ length s → map length (cut xs s) ≡ xs
unfolding cut add_up
cut_lengths [] s h = refl
cut_lengths (x ∷ xs) s h =
    ap₂ (λ (n : ℕ) (ns : List ℕ). n ∷ ns) (length-take-le x s (omega arith)) (cut_lengths xs (drop x s) (omega (arith, length-drop x s)))

pub content_lengths : (p : ℕ) (x : Desk) → Good p x → (id : ℕ) → id < 3 → map length (content_in id x) ≡ units (queue_of x.state id)
unfolding content_in content_of unsent
content_lengths p x k id h =
    let s = k.queues id h in
    let l = k.store in
    let b : add_up same (units (queue_of x.state id)) ≤ 4096 = s.bytes in
    let f : length (part_of x.store id) ≡ 4096 = length-take-le 4096 (drop (id * 4096) x.store) (omega (arith, length-drop (id * 4096) x.store)) in
    cut_lengths (units (queue_of x.state id)) (part_of x.store id) (omega arith)

-- ---- as many packets of id as were handed out
pub sent_count : (p id : ℕ) (acts : List Act) (x : Desk) → id < 3 → Steady p acts → Good p x → length (of_id p id (sent_in acts x)) ≡ got (history id acts x)
sent_count p id acts x h st k =
    ap length (pieces p id acts x h st k) ∙ numbered_length id (index_of x.state id) _ ∙ chunks_length p (got (history id acts x)) _ _

steady_left : (p id : ℕ) (acts : List Act) (store : List ℕ) → id < 3 → length store ≡ 12288 → Steady p acts
    → content_in id (run acts (fresh_desk store)) ≡ left_of p id (log acts (fresh_desk store))
unfolding left_of
steady_left p id acts store h l st =
    let x = fresh_desk store in
    let k = fresh_good p store l in
    run_content p id acts x h st k
    ∙ ap (λ (us : List (List ℕ)). rests p (got (history id acts x)) (us ++ accepted_in id acts x)) (fresh_is id store h).content
    ∙ sym (ap₂ (rests p) (ap (λ (ss : List (List ℕ)). length (of_id p id ss)) (sent_seen acts x) ∙ sent_count p id acts x h st k) (accepted_seen id acts x))

-- ---- every run
pub record Mirror (p : ℕ) (es : List Event) (y : Desk) : Type 0 where
  pub good : Good p y
  pub left : (id : ℕ) → id < 3 → content_in id y ≡ left_of p id es

pub mirror : (p : ℕ) (acts : List Act) (store : List ℕ) → length store ≡ 12288 → Stands p (log acts (fresh_desk store))
    → Mirror p (log acts (fresh_desk store)) (run acts (fresh_desk store))
unfolding left_of
mirror p acts store l st =
    let x = fresh_desk store in
    let b = taken acts x in
    let s = taken_steady p acts x st in
    record {
      good = subst (Good p) (taken_run acts x) (run_good p b x s (fresh_good p store l));
      left = λ id h.
          ap (content_in id) (sym (taken_run acts x))
          ∙ steady_left p id b store h l s
          ∙ ap₂ (λ (ss us : List (List ℕ)). rests p (length (of_id p id ss)) us) (taken_gather packets_of acts x) (taken_gather (unit_for id) acts x);
    }

-- ---- what follows for its queues
module _ (p : ℕ) (es : List Event) (y : Desk) (m : Mirror p es y) (id : ℕ) (h : id < 3) where
  pub units_seen : units (queue_of y.state id) ≡ map length (left_of p id es)
  units_seen = sym (content_lengths p y m.good id h) ∙ ap (map length) (m.left id h)

  pub waiting_seen : waiting_in p id y ≡ waiting_at p id es
  unfolding waiting_in waiting_at
  waiting_seen = ap (waits p) units_seen

  pub waiting_three_law : at (waiting_of p y.state) id ≡ waiting_at p id es
  unfolding waiting_at
  waiting_three_law = waits_at p y.state id h ∙ ap (waits p) units_seen

  pub count_seen : (queue_of y.state id).count ≡ length (left_of p id es)
  count_seen =
      let q = queue_of y.state id in
      let s = m.good.queues id h in
      sym (length-take-le q.count q.left (omega (arith, s.count, s.eight))) ∙ ap length units_seen ∙ length-map (left_of p id es) length
