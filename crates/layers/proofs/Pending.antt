-- What is pending stands in the store, read through the rings. Assumes nothing.
use Prim.Native.Nat.{ℕ, ◌≤◌, ◌<◌}
use mathlib.Core.Path.{◌≡◌, sym, ap, ◌∙◌, subst}
use mathlib.Core.List.{List, ◌++◌}
use native.Mathlib.Omega.{arith}
use lib.ListN.{length, take, drop, take-append-drop}
use lib.Seq.{length-take-le}
use Rattle.laws.specs.Part.{part_of}
use Rattle.queue.specs.Queue.{add_up, same, units, unsent}
use Rattle.queue.specs.declared.Queue.{Queue}
use Rattle.row.specs.Content.{cut, content_of}
use Rattle.sender.specs.State.{queue_of}
use Rattle.sender.specs.Kept.{Kept}
use Rattle.sender.specs.Rings.{front_of, ring_of}
use Rattle.sender.proofs.Unrolled.{part_length, ring_length}
use Rattle.demand.specs.Run.{Act, Steady, fresh_desk, Answer, answers}
use Rattle.demand.specs.Log.{Stands, events, sent_of, left_of}
use Rattle.demand.specs.Within.{content_in}
use Rattle.demand.proofs.Good.{Good}
use Rattle.demand.proofs.Mirror.{mirror}
use Rattle.demand.proofs.Store.{cut_front}
use Rattle.delivery.specs.Delivered.{fresh_ear, line_at, hear_all}
use Rattle.delivery.specs.Whole.{delivered_in, wholes}
use Rattle.layers.specs.KeptRun.{KeptDesk, fresh_kept_desk, plain, run_kept, log_kept}
use Rattle.layers.specs.Run.{RingDesk, fresh_ring_desk, run_ring, log_ring}
use Rattle.layers.specs.Rings.{left_in_ring, PendingStands, Same}
use Rattle.layers.proofs.Without.{left_with}
use Rattle.layers.proofs.KeptCounts.{fresh_answers, fresh_run, steady_stands, acts_with, steady_with, run_with}
use Rattle.layers.proofs.Rings.{both_runs, log_is, stands_is}
use Rattle.layers.proofs.Holds.{it_holds}

-- ---- in the layout of before
-- the desk is good, and has of each queue what the log says
record Stood (p : ℕ) (acts : List Act) (store : List ℕ) : Type 0 where
  good : Good p (plain (run_kept acts (fresh_kept_desk store)))
  left : (id : ℕ) → id < 3 → content_in id (plain (run_kept acts (fresh_kept_desk store))) ≡ left_of p id (log_kept acts (fresh_kept_desk store))

steady_stood : (p : ℕ) (acts : List Act) (store : List ℕ) → length store ≡ 12288 → Steady p acts → Stood p acts store
steady_stood p acts store hs st =
    let m = mirror p acts store hs (steady_stands p acts (answers acts (fresh_desk store)) st) in
    record {
      good = subst (Good p) (sym (fresh_run p acts store st)) m.good;
      left = λ id h.
          ap (content_in id) (fresh_run p acts store st)
          ∙ m.left id h
          ∙ ap (λ (bs : List Answer). left_of p id (events acts bs)) (sym (fresh_answers p acts store st));
    }

kept_stood : (p : ℕ) (acts : List Act) (store : List ℕ) → length store ≡ 12288 → Stands p (log_kept acts (fresh_kept_desk store)) → Stood p acts store
kept_stood p acts store hs st =
    let x = fresh_kept_desk store in
    let k = run_with p acts x st in
    let s = steady_stood p (acts_with p acts) store hs (steady_with p acts) in
    record {
      good = subst (λ (y : KeptDesk). Good p (plain y)) k.1 s.good;
      left = λ id h. ap (λ (y : KeptDesk). content_in id (plain y)) (sym k.1) ∙ s.left id h ∙ ap (left_of p id) k.0 ∙ left_with p (log_kept acts x) st id;
    }

-- ---- with rings
-- the units of a queue are cut from its unsent bytes
content_front : (q : Queue) (s : List ℕ) → unsent q ≤ length s → content_of q (take (unsent q) s) ≡ content_of q s
unfolding content_of unsent
content_front q s h =
    let n = add_up same (units q) in
    sym (cut_front (units q) (take n s) (drop n s) (omega (arith, length-take-le n s h))) ∙ ap (cut (units q)) (take-append-drop n s)

module _ (p : ℕ) (x : KeptDesk) (y : RingDesk) (k : Same x y) (g : Good p (plain x)) where
  stands_in : (id : ℕ) → id < 3 → left_in_ring y id ≡ content_in id (plain x)
  unfolding content_in
  stands_in id h =
      let q = queue_of (front_of y.state) id in
      let e : queue_of x.state.front id ≡ q = ap (λ (s : Kept). queue_of s.front id) k.state in
      let b = (g.queues id h).bytes in
      let n : unsent (queue_of x.state.front id) ≡ unsent q = ap unsent e in
      let l : length y.store ≡ 12288 = sym k.long ∙ g.store in
      sym (content_front q (ring_of y.state.start y.store id) (omega (arith, ring_length y.state.start y.store l id h)))
      ∙ ap (content_of q) (sym (k.bytes id h) ∙ ap (λ (m : ℕ). take m (part_of x.store id)) n)
      ∙ content_front q (part_of x.store id) (omega (arith, part_length x.store id h g.store))
      ∙ ap (λ (v : Queue). content_of v (part_of x.store id)) (sym e)

ring_left : (p : ℕ) (acts : List Act) (store : List ℕ) → length store ≡ 12288 → Stands p (log_ring acts (fresh_ring_desk store)) → (id : ℕ) → id < 3
    → left_in_ring (run_ring acts (fresh_ring_desk store)) id ≡ left_of p id (log_ring acts (fresh_ring_desk store))
ring_left p acts store hs st id h =
    let s = kept_stood p acts store hs (stands_is acts store p st) in
    stands_in p (run_kept acts (fresh_kept_desk store)) (run_ring acts (fresh_ring_desk store)) (both_runs acts store).desks s.good id h
    ∙ s.left id h
    ∙ ap (left_of p id) (log_is acts store)

pub pending_stands : PendingStands
pending_stands p acts store hs st id h =
    let es = log_ring acts (fresh_ring_desk store) in
    let l = ring_left p acts store hs st id h in
    record {
      left = l;
      all = λ buffer hb.
          ap (λ (us : List (List ℕ)). delivered_in p id es buffer ++ wholes (line_at (hear_all p (fresh_ear buffer) (sent_of es)) id) us) l
          ∙ ((it_holds p acts store hs st).delivery buffer hb).all id h;
    }
