-- Once the shares since some call add up to what waited in a queue then, only units accepted since are in it: of 01's runs, as the log has it.
-- Assumes nothing.
use Prim.Native.Nat.{ℕ, ◌+◌, ◌-◌, ◌≤◌, ◌<◌}
use mathlib.Core.Path.{◌≡◌, sym, ap, ap₂, ◌∙◌, subst}
use mathlib.Core.List.{List, [], ◌∷◌, ◌++◌, map, append_cancel_left}
use native.Mathlib.Omega.{arith}
use lib.ListN.{length}
use Rattle.queue.specs.Queue.{add_up, same, waits}
use Rattle.queue.specs.Send.{AllPos, got}
use Rattle.row.specs.Content.{rests}
use Rattle.demand.specs.Bytes.{of_id}
use Rattle.demand.specs.Run.{Act, Steady, Desk, fresh_desk, run, answers}
use Rattle.demand.specs.Log.{Event, events, log, accepted_of, sent_of, shares_of, left_of, waiting_at}
use Rattle.demand.specs.Within.{history, accepted_in, content_in, waiting_in}
use Rattle.demand.proofs.Good.{Good}
use Rattle.demand.proofs.Chunks.{rests_add, rests_front}
use Rattle.demand.proofs.Drained.{drained_some, drained_none}
use Rattle.demand.proofs.Demand.{sent_by_shares, run_content}
use Rattle.demand.proofs.Seen.{accepted_seen, sent_seen, shares_seen, log_append, run_append}
use Rattle.demand.proofs.Mirror.{content_lengths, sent_count, Mirror, mirror, waiting_seen}
use Rattle.layers.specs.Run.{fresh_ring_desk, log_ring}
use Rattle.layers.proofs.KeptCounts.{fresh_answers, steady_stands}
use Rattle.layers.proofs.Rings as rings

-- n packets of units us and those behind them, where n is at least what us take
past : (p : ℕ) → 1 ≤ p → (us vs : List (List ℕ)) (n k : ℕ) → AllPos (map length us) → k ≡ waits p (map length us) → k ≤ n → rests p n (us ++ vs) ≡ rests p (n - k) vs
past p hp us vs n k a e h =
    let z : n ≡ k + (n - k) = omega arith in
    let r : rests p k (us ++ vs) ≡ vs =
    ap (λ (j : ℕ). rests p j (us ++ vs)) e ∙ rests_front p us vs (waits p (map length us)) (drained_some p hp us a)
    ∙ ap (λ (l : List (List ℕ)). l ++ vs) (drained_none p hp us a) in
    ap (λ (j : ℕ). rests p j (us ++ vs)) z ∙ rests_add p k (n - k) (us ++ vs) ∙ ap (rests p (n - k)) r

-- ---- from a desk of 01 on
module _ (p id : ℕ) (acts : List Act) (y : Desk) (hp : 1 ≤ p) (hid : id < 3) (st : Steady p acts) (good : Good p y) where
  abbrev es : List Event
  es = log acts y

  content_past : waiting_in p id y ≤ add_up same (shares_of id es)
      → content_in id (run acts y) ≡ rests p (length (of_id p id (sent_of es)) - waiting_in p id y) (accepted_of id es)
  unfolding waiting_in
  content_past h =
      let k = waiting_in p id y in
      let n = got (history id acts y) in
      let e : map length (content_in id y) ≡ _ = content_lengths p y good id hid in
      let l : k ≤ n = omega (arith, sent_by_shares p id acts y hp hid st good, shares_seen id acts y, h) in
      run_content p id acts y hid st good
      ∙ past p hp (content_in id y) (accepted_in id acts y) n k (subst AllPos (sym e) (good.queues id hid).pos) (ap (waits p) (sym e)) l
      ∙ ap₂ (λ (m : ℕ) (us : List (List ℕ)). rests p (m - k) us)
      (sym (ap (λ (ss : List (List ℕ)). length (of_id p id ss)) (sent_seen acts y) ∙ sent_count p id acts y hid st good)) (sym (accepted_seen id acts y))

-- ---- of a run from fresh with rings, cut in two: es are the events of the first part, fs those of the second
steady_join : (p : ℕ) (xs ys : List Act) → Steady p xs → Steady p ys → Steady p (xs ++ ys)
steady_join p [] ys h k = k
steady_join p (x ∷ xs) ys h k = (h.0, steady_join p xs ys h.1 k)

module _ (p id : ℕ) (first next : List Act) (store : List ℕ) (hp : 1 ≤ p) (hid : id < 3) (hs : length store ≡ 12288) (sf : Steady p first) (sn : Steady p next) where
  abbrev x : Desk
  x = fresh_desk store

  abbrev y : Desk
  y = run first x

  ring_log : (acts : List Act) → Steady p acts → log_ring acts (fresh_ring_desk store) ≡ log acts x
  ring_log acts st = sym (rings.log_is acts store) ∙ ap (events acts) (fresh_answers p acts store st)

  seen : (acts : List Act) → Steady p acts → Mirror p (log acts x) (run acts x)
  seen acts st = mirror p acts store hs (steady_stands p acts (answers acts x) st)

  left_past : waiting_in p id y ≤ add_up same (shares_of id (log next y))
      → left_of p id (log (first ++ next) x) ≡ rests p (length (of_id p id (sent_of (log next y))) - waiting_in p id y) (accepted_of id (log next y))
  left_past h =
      sym ((seen (first ++ next) (steady_join p first next sf sn)).left id hid) ∙ ap (content_in id) (run_append first next x)
      ∙ content_past p id next y hp hid sn (seen first sf).good h

  pub cleared : (es fs : List Event) → es ++ fs ≡ log_ring (first ++ next) (fresh_ring_desk store) → es ≡ log_ring first (fresh_ring_desk store)
      → (k : ℕ) → k ≡ waiting_at p id es → k ≤ add_up same (shares_of id fs)
      → left_of p id (es ++ fs) ≡ rests p (length (of_id p id (sent_of fs)) - k) (accepted_of id fs)
  cleared es fs all front k ek h =
      let whole : es ++ fs ≡ log (first ++ next) x = all ∙ ring_log (first ++ next) (steady_join p first next sf sn) in
      let before : es ≡ log first x = front ∙ ring_log first sf in
      let behind : log next y ≡ fs =
      sym (append_cancel_left es fs (log next y) (whole ∙ log_append first next x ∙ ap (λ (l : List Event). l ++ log next y) (sym before))) in
      let count : waiting_in p id y ≡ k = waiting_seen p (log first x) y (seen first sf) id hid ∙ ap (waiting_at p id) (sym before) ∙ sym ek in
      ap (left_of p id) whole
      ∙ subst (λ (m : ℕ). m ≤ add_up same (shares_of id fs) → left_of p id (log (first ++ next) x) ≡ rests p (length (of_id p id (sent_of fs)) - m) (accepted_of id fs)) count
      (subst (λ (ts : List Event). waiting_in p id y ≤ add_up same (shares_of id ts)
      → left_of p id (log (first ++ next) x) ≡ rests p (length (of_id p id (sent_of ts)) - waiting_in p id y) (accepted_of id ts)) behind left_past) h
