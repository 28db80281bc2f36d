-- What a load and a frame leave of the bytes that each queue holds. Assumes nothing.
use Prim.Native.Nat.{ℕ, zero, suc, ◌+◌, ◌-◌, ◌*◌, ◌<◌, ◌≤◌}
use mathlib.Core.Path.{◌≡◌, refl, sym, ap, ap₂, ◌∙◌}
use mathlib.Core.List.{List, [], ◌∷◌, ◌++◌}
use mathlib.Core.Bool.{Bool, true, false, not}
use native.Mathlib.Omega.{arith}
use borrow.Author.Tests.{eq-eqb, ne_eqb, eqb-true}
use lib.Dec.{eqb, lit<}
use lib.ListN.{length, take, drop, length-drop, take-append-drop}
use lib.Seq.{take-take, drop-drop, length-take-le}
use Rattle.laws.specs.Part.{part_of}
use Rattle.laws.specs.Pick.{pick}
use Rattle.laws.specs.Written.{written}
use Rattle.hand.specs.Settings.{at, Allowed}
use Rattle.hand.specs.declared.Three.{Three}
use Rattle.hand.specs.declared.Settings.{Settings}
use Rattle.moves.proofs.Turns.{pulled_is, pulled_length}
use Rattle.queue.specs.Queue.{add_up, same, units, unsent, pushed}
use Rattle.queue.specs.declared.Queue.{Queue}
use Rattle.queue.proofs.Keep.{pushed_units, pushed_sent}
use Rattle.row.specs.Content.{cut, content_of, begun_in, rests, begun_after, chunks}
use Rattle.row.specs.declared.Out.{Out}
use Rattle.sender.specs.State.{queue_of, index_of, out_of}
use Rattle.sender.specs.Load.{placed_in}
use Rattle.sender.specs.Private.{Accepted}
use Rattle.sender.specs.Frame.{hand_of, end_of, ends_of, next_from, closed, closed_all, frame_bytes}
use Rattle.sender.specs.Frame as sends
use Rattle.sender.specs.Load as loads
use Rattle.sender.specs.declared.Front.{Front}
use Rattle.demand.specs.Bytes.{split, readable, own, numbered}
use Rattle.demand.specs.Run.{Desk}
use Rattle.demand.specs.Within.{content_in}
use Rattle.demand.proofs.Good.{Good, loaded_queue, out_whole, end_whole}
use Rattle.demand.proofs.Served.{no_more}
use Rattle.demand.proofs.Rows.{frame_own}
use Rattle.demand.proofs.Content.{take_drop, left_steps, begun_steps, row_pieces, some_left}
use Rattle.demand.proofs.Store.{written_own, written_other, cut_front, cut_front_written, cut_loaded}

-- ---- a load
module _ (p : ℕ) (x : Desk) (k : Good p x) (j : ℕ) (unit : List ℕ) (a : Accepted x.state j (length unit) (length x.store)) where
  abbrev s : Front
  s = x.state

  abbrev y : Desk
  y = record { state = loads.loaded s j (length unit); store = placed_in s j unit x.store }

  in_store : j * 4096 + 4096 ≤ length x.store
  in_store = let i = a.id_in in let l = k.store in omega arith

  pub own_content : content_in j y ≡ content_in j x ++ (unit ∷ [])
  unfolding content_in content_of placed_in unsent
  own_content =
      let q = queue_of s j in
      let i = k.queues j a.id_in in
      let f = a.fits in
      let qe : queue_of (loads.loaded s j (length unit)) j ≡ pushed q (length unit) =
      loaded_queue s j j (length unit) k.three a.id_in ∙ ap (λ (b : Bool). pick b (pushed q (length unit)) q) (eq-eqb j j refl) in
      let l : length (part_of x.store j) ≡ 4096 = length-take-le 4096 (drop (j * 4096) x.store) (omega (arith, in_store, length-drop (j * 4096) x.store)) in
      ap₂ cut (ap units qe ∙ pushed_units q (length unit) i.eight a.count_in) (written_own x.store j (add_up same (units q)) unit in_store (omega arith))
      ∙ cut_loaded (units q) (part_of x.store j) unit (add_up same (units q)) refl (omega arith)

  pub other_content : (id : ℕ) → (id ≡ j → ⊥) → content_in id y ≡ content_in id x
  unfolding content_in content_of placed_in
  other_content id e =
      let q = queue_of s j in
      let f = a.fits in
      let qe : queue_of (loads.loaded s j (length unit)) id ≡ queue_of s id =
      loaded_queue s j id (length unit) k.three a.id_in ∙ ap (λ (b : Bool). pick b (pushed q (length unit)) (queue_of s id)) (ne_eqb id j e) in
      ap₂ cut (ap units qe) (written_other x.store j (unsent q) unit in_store (omega arith) id e)

  pub load_begun : (id : ℕ) → begun_in (queue_of (loads.loaded s j (length unit)) id) ≡ begun_in (queue_of s id)
  unfolding begun_in
  load_begun id =
      ap (λ (q : Queue). not (eqb q.sent 0)) (loaded_queue s j id (length unit) k.three a.id_in) ∙ go (eqb id j) refl
    where
      go : (b : Bool) → eqb id j ≡ b → not (eqb (pick b (pushed (queue_of s j) (length unit)) (queue_of s id)).sent 0) ≡ not (eqb (queue_of s id).sent 0)
      go true e = ap (λ (m : ℕ). not (eqb m 0)) (pushed_sent (queue_of s j) (length unit) ∙ ap (λ (m : ℕ). (queue_of s m).sent) (sym (eqb-true id j e)))
      go false e = refl

-- ---- a frame
-- the unsent bytes of queue j at the front of its part
module _ (store : List ℕ) (j : ℕ) (o : Out) (hj : j < 3) (hs : length store ≡ 12288) (h : o.at + unsent o.q ≤ 4096) where
  unfoldable pub moved : List ℕ
  moved = take (unsent o.q) (drop o.at (part_of store j))

  moved_is : take (unsent o.q) (drop (j * 4096 + o.at) store) ≡ moved
  unfolding moved
  moved_is =
      let n = unsent o.q in
      let r = drop (j * 4096) store in
      let lr : length r ≡ length store - j * 4096 = length-drop (j * 4096) store in
      ap (take n) (sym (drop-drop o.at (j * 4096) store))
      ∙ take_drop n o.at r (omega arith)
      ∙ ap (drop o.at) (sym (take-take (o.at + n) 4096 r h))
      ∙ sym (take_drop n o.at (take 4096 r) (let m = length-take-le 4096 r (omega arith) in omega arith))

  pub moved_length : length moved ≡ unsent o.q
  unfolding moved
  moved_length =
      let l : length (part_of store j) ≡ 4096 = length-take-le 4096 (drop (j * 4096) store) (omega (arith, length-drop (j * 4096) store)) in
      length-take-le (unsent o.q) (drop o.at (part_of store j)) (omega (arith, length-drop o.at (part_of store j)))

  closed_is : closed store j o ≡ written store (j * 4096 + 0) moved
  unfolding closed
  closed_is =
      let z : j * 4096 ≡ j * 4096 + 0 = omega arith in
      pulled_is store (j * 4096) (j * 4096 + o.at) (unsent o.q) (omega arith) (omega arith)
      ∙ ap₂ (λ (b : ℕ) (t : List ℕ). written store b t) z moved_is

  pub closed_own : part_of (closed store j o) j ≡ written (part_of store j) 0 moved
  closed_own = ap (λ (d : List ℕ). part_of d j) closed_is ∙ written_own store j 0 moved (omega arith) (let m = moved_length in omega arith)

  pub closed_other : (i : ℕ) → (i ≡ j → ⊥) → part_of (closed store j o) i ≡ part_of store i
  closed_other i e = ap (λ (d : List ℕ). part_of d i) closed_is ∙ written_other store j 0 moved (omega arith) (let m = moved_length in omega arith) i e

  pub closed_size : length (closed store j o) ≡ 12288
  unfolding closed
  closed_size = pulled_length store (j * 4096) (j * 4096 + o.at) (unsent o.q) ∙ hs

  -- and so they are cut as they were
  cut_closed : cut (units o.q) (part_of (closed store j o) j) ≡ cut (units o.q) (drop o.at (part_of store j))
  unfolding moved unsent
  cut_closed =
      let n = add_up same (units o.q) in
      let q = drop o.at (part_of store j) in
      let m = moved_length in
      ap (cut (units o.q)) closed_own
      ∙ cut_front_written (units o.q) (part_of store j) (take n q) (omega arith)
      ∙ sym (cut_front (units o.q) (take n q) (drop n q) (omega arith))
      ∙ ap (cut (units o.q)) (take-append-drop n q)

module _ (g : Settings) (x : Desk) (k : Good g.p x) (al : Allowed g) where
  abbrev N : Three
  N = (hand_of g x.state).packets

  abbrev end : ℕ → ℕ → Out
  end id n = end_of g.p x.state id n

  abbrev next : Desk
  next = record { state = (sends.framed g x.state).next; store = closed_all g.p x.state N x.store }

  inside : (id n : ℕ) → id < 3 → (end id n).at + unsent (end id n).q ≤ 4096
  inside id n h = (end_whole g.p x k al.low id n h).inside

  s0 : List ℕ
  s0 = closed x.store 0 (end 0 N.a)

  s1 : List ℕ
  s1 = closed s0 1 (end 1 N.b)

  l0 : length s0 ≡ 12288
  unfolding s0
  l0 = closed_size x.store 0 (end 0 N.a) (lit< tt) k.store (inside 0 N.a (lit< tt))

  l1 : length s1 ≡ 12288
  unfolding s1
  l1 = closed_size s0 1 (end 1 N.b) (lit< tt) l0 (inside 1 N.b (lit< tt))

  -- after the three moves: queue id's units in its part of the store
  cut_all : (id : ℕ) → id < 3 → cut (units (end id (at N id)).q) (part_of (closed_all g.p x.state N x.store) id)
      ≡ cut (units (end id (at N id)).q) (drop (end id (at N id)).at (part_of x.store id))
  unfolding closed_all s0 s1
  cut_all zero h =
      ap (cut (units (end 0 N.a).q))
      (closed_other s1 2 (end 2 N.c) (lit< tt) l1 (inside 2 N.c (lit< tt)) 0 (λ e. omega arith)
      ∙ closed_other s0 1 (end 1 N.b) (lit< tt) l0 (inside 1 N.b (lit< tt)) 0 (λ e. omega arith))
      ∙ cut_closed x.store 0 (end 0 N.a) (lit< tt) k.store (inside 0 N.a (lit< tt))
  cut_all (suc zero) h =
      ap (cut (units (end 1 N.b).q)) (closed_other s1 2 (end 2 N.c) (lit< tt) l1 (inside 2 N.c (lit< tt)) 1 (λ e. omega arith))
      ∙ cut_closed s0 1 (end 1 N.b) (lit< tt) l0 (inside 1 N.b (lit< tt))
      ∙ ap (λ (d : List ℕ). cut (units (end 1 N.b).q) (drop (end 1 N.b).at d))
      (closed_other x.store 0 (end 0 N.a) (lit< tt) k.store (inside 0 N.a (lit< tt)) 1 (λ e. omega arith))
  cut_all (suc (suc zero)) h =
      cut_closed s1 2 (end 2 N.c) (lit< tt) l1 (inside 2 N.c (lit< tt))
      ∙ ap (λ (d : List ℕ). cut (units (end 2 N.c).q) (drop (end 2 N.c).at d))
      (closed_other s0 1 (end 1 N.b) (lit< tt) l0 (inside 1 N.b (lit< tt)) 2 (λ e. omega arith)
      ∙ closed_other x.store 0 (end 0 N.a) (lit< tt) k.store (inside 0 N.a (lit< tt)) 2 (λ e. omega arith))
  cut_all (suc (suc (suc id))) h = absurd (omega arith)

  next_queue : (id : ℕ) → id < 3 → queue_of (sends.framed g x.state).next id ≡ (end id (at N id)).q
  unfolding sends.framed next_from ends_of
  next_queue zero h = refl
  next_queue (suc zero) h = refl
  next_queue (suc (suc zero)) h = refl
  next_queue (suc (suc (suc id))) h = absurd (omega arith)

  part_full : (id : ℕ) → id < 3 → length (part_of x.store id) ≡ 4096
  part_full id h = let l = k.store in length-take-le 4096 (drop (id * 4096) x.store) (omega (arith, length-drop (id * 4096) x.store))

  -- what is left, whether it is begun, and what the frame said
  pub frame_content : (id : ℕ) → id < 3 → content_in id next ≡ rests g.p (at N id) (content_in id x)
  unfolding content_in content_of
  frame_content id h =
      ap (λ (q : Queue). cut (units q) (part_of (closed_all g.p x.state N x.store) id)) (next_queue id h)
      ∙ cut_all id h
      ∙ left_steps g.p al.low (part_of x.store id) (part_full id h) (out_of x.state id) (out_whole g.p x k id h) (at N id)

  pub frame_begun : (id : ℕ) → id < 3 → begun_in (queue_of (sends.framed g x.state).next id) ≡ begun_after g.p (at N id) (begun_in (queue_of x.state id)) (content_in id x)
  unfolding content_in
  frame_begun id h =
      ap begun_in (next_queue id h)
      ∙ begun_steps g.p al.low (part_of x.store id) (part_full id h) (out_of x.state id) (out_whole g.p x k id h) (at N id) (no_more g x k al id h)

  pub frame_sent : (id : ℕ) → id < 3 → (out : List ℕ)
      → own id (readable g.p (split (g.p + 3) g.n (written out 0 (frame_bytes g x.state x.store))))
      ≡ numbered id (index_of x.state id) (chunks g.p (at N id) (begun_in (queue_of x.state id)) (content_in id x))
  unfolding content_in written
  frame_sent id h out =
      frame_own g x k al (drop (0 + length (frame_bytes g x.state x.store)) out) id h
      ∙ ap (numbered id (index_of x.state id))
      (row_pieces g.p al.low (part_of x.store id) (part_full id h) (out_of x.state id) (out_whole g.p x k id h) (at N id) (no_more g x k al id h))

  pub frame_some : (id : ℕ) → id < 3 → (j : ℕ) → j < at N id → rests g.p j (content_in id x) ≡ [] → ⊥
  unfolding content_in
  frame_some id h j l =
      let m = no_more g x k al id h in
      some_left g.p al.low (part_of x.store id) (part_full id h) (out_of x.state id) (out_whole g.p x k id h) j (omega arith)
