-- Condition C holds of every run from the fresh state in which p stands. Assumes nothing.
use Prim.Native.Nat.{ℕ, zero, suc, ◌+◌, ◌*◌, ◌<◌, ◌≤◌, min}
use mathlib.Core.Path.{◌≡◌, refl, sym, ap, ap₂, ◌∙◌, subst}
use mathlib.Core.List.{List, [], ◌∷◌, ◌++◌, map}
use mathlib.Core.Bool.{Bool, true, false, ◌||◌}
use native.Mathlib.Omega.{arith}
use borrow.Author.Tests.{eq-eqb, ltb-false}
use mathlib.Core.Logic.{◌↔◌}
use lib.Dec.{ltb, leb}
use lib.ListN.{length, replicate}
use Rattle.hand.specs.Settings.{at, total, Allowed}
use Rattle.hand.specs.declared.Settings.{Settings}
use Rattle.queue.specs.Queue.{add_up, same, units, unsent}
use Rattle.queue.specs.Send.{shares}
use Rattle.queue.proofs.Sending.{over_le}
use Rattle.sender.specs.State.{queue_of, waiting_of, broken_state}
use Rattle.sender.specs.Load.{full, load_tests, load_number}
use Rattle.sender.specs.Frame.{hand_of}
use Rattle.sender.proofs.Loading.{passed}
use Rattle.demand.specs.Bytes.{split, of_id, saying}
use Rattle.demand.specs.Run.{Act, load, frame, Desk, fresh_desk, number_of, after, Answer, answer}
use Rattle.demand.specs.Log.{Event, log, Stands, packets_of, share_for, sent_of, shares_of, left_of, waiting_at}
use Rattle.demand.specs.Condition.{Called, Written, carries, Taken, waiting_with, Ends, SentWithin, full_at, frame_refused, load_refused, Condition}
use Rattle.demand.specs.Within.{history, sent_in, waiting_in}
use Rattle.demand.proofs.Good.{Good, good_fine, never_17, frame_refused_for, accepted_exactly}
use Rattle.demand.proofs.Served.{served_here}
use Rattle.demand.proofs.Counted.{frame_allowed, carried, carried_filler, frame_sum}
use Rattle.demand.proofs.Seen.{number_is, sent_seen, shares_seen, taken, taken_gather, taken_steady}
use Rattle.demand.proofs.Mirror.{Mirror, units_seen, waiting_seen, waiting_three_law, count_seen}
use Rattle.demand.proofs.Unit.{unit_sent}
use Rattle.demand.proofs.Parts.{Here, here, parted, stands_front}

-- ---- a frame
module _ (p : ℕ) (es : List Event) (y : Desk) (m : Mirror p es y) (g : Settings) (e : g.p ≡ p) (out : List ℕ) (z : number_of (frame g out) y ≡ 0) where
  good : Good g.p y
  good = subst (λ (q : ℕ). Good q y) (sym e) m.good

  waits_in : (id : ℕ) → id < 3 → at (waiting_of g.p y.state) id ≡ waiting_at p id es
  waits_in id h = ap (λ (q : ℕ). at (waiting_of q y.state) id) e ∙ waiting_three_law p es y m id h

  abbrev counts : ℕ → ℕ
  counts id = length (of_id g.p id (split (g.p + 3) g.n (answer (frame g out) y).out))

  share_in : (id : ℕ) → id < 3 → min (at g.share id) (waiting_at p id es) ≤ counts id
  share_in id h = omega (arith, (served_here g y good (frame_allowed g out y z)).share id, waits_in id h, carried g out y good z id h)

  ceiling_in : (id : ℕ) → id < 3 → counts id ≤ at g.ceiling id
  ceiling_in id h = omega (arith, (served_here g y good (frame_allowed g out y z)).ceiling id, carried g out y good z id h)

  filler_in : 1 ≤ counts 3 → (id : ℕ) → id < 3 → counts id ≡ min (waiting_at p id es) (at g.ceiling id)
  filler_in f id h =
      let s : total (hand_of g y.state).packets < g.n = omega (arith, frame_sum g out y good z, carried_filler g out y good z) in
      carried g out y good z id h
      ∙ (served_here g y good (frame_allowed g out y z)).filler s id
      ∙ ap (λ (w : ℕ). min w (at g.ceiling id)) (waits_in id h)

-- ---- a unit that was accepted
sum_same : (n s : ℕ) → add_up same (replicate n s) ≡ n * s
unfolding add_up
sum_same zero s = omega arith
sum_same (suc n) s = omega (arith, sum_same n s)

module _ (p : ℕ) (id : ℕ) (unit : List ℕ) (before : List Event) (g : Settings) (b : Answer) (behind : List Event)
    (c : Here p before (load g id unit) b behind) (z : b.number ≡ 0) (next rest : List Event) (q : behind ≡ next ++ rest) where
  abbrev y' : Desk
  y' = after (load g id unit) c.desk

  accepted_here : number_of (load g id unit) c.desk ≡ 0
  accepted_here = sym (number_is (load g id unit) c.desk) ∙ sym (ap (λ (d : Answer). d.number) c.answered) ∙ z

  small : id < 3
  unfolding number_of load_number
  small = (passed g c.desk.state id (length unit) (length c.desk.store) accepted_here).unit.id_in

  sent_here : (k : ℕ) → k ≡ waiting_at p id (before ++ (record { act = load g id unit; answer = b } ∷ [])) → k ≤ add_up same (shares_of id next)
      → Ends p unit k (saying (of_id p id (sent_of next)))
  sent_here k e h =
      let r = parted c.acts y' next rest (sym c.rest ∙ q) in
      let t = taken r.first y' in
      let s = taken_steady p r.first y' (subst (Stands p) r.front (stands_front p next rest (subst (Stands p) q c.stands))) in
      let w : waiting_in p id y' ≡ k = waiting_seen p _ y' c.then id small ∙ sym e in
      let a : sent_in t y' ≡ sent_of next = sym (sent_seen t y') ∙ taken_gather packets_of r.first y' ∙ ap sent_of (sym r.front) in
      let f : shares (history id t y') ≡ add_up same (shares_of id next) =
      sym (shares_seen id t y') ∙ ap (add_up same) (taken_gather (share_for id) r.first y' ∙ ap (shares_of id) (sym r.front)) in
      subst (λ (i : ℕ). Ends p unit i (saying (of_id p id (sent_of next)))) w
      (subst (λ (ss : List (List ℕ)). Ends p unit (waiting_in p id y') (saying (of_id p id ss))) a
      (unit_sent p c.desk c.seen.good g id unit (c.same z) accepted_here t s (omega arith)))

-- ---- refusals
module _ (p : ℕ) (es : List Event) (y : Desk) (m : Mirror p es y) where
  full_seen : (id n : ℕ) → id < 3 → full y.state id n ≡ full_at p id n es
  unfolding full full_at unsent
  full_seen id n h =
      ap₂ (λ (c : ℕ) (us : List ℕ). leb 8 c || ltb 4096 (n + add_up same us)) (count_seen p es y m id h) (units_seen p es y m id h)

  load_tests_law : (g : Settings) (id : ℕ) (unit : List ℕ) → g.p ≡ p
      → number_of (load g id unit) y
      ≡ load_refused g id (length unit) (full y.state id (length unit))
  unfolding number_of load_number load_tests load_refused
  load_tests_law g id unit e =
      let f : broken_state g.p y.state ≡ false = rw e (good_fine p y m.good) in
      simp (f, eq-eqb (length y.store) 12288 m.good.store)

  load_number_law : (g : Settings) (id : ℕ) (unit : List ℕ) → g.p ≡ p
      → number_of (load g id unit) y ≡ load_refused g id (length unit) (full_at p id (length unit) es)
  unfolding load_refused
  load_number_law g id unit e = load_tests_law g id unit e ∙ go (ltb 2 id) refl
    where
      go : (t : Bool) → ltb 2 id ≡ t → load_refused g id (length unit) (full y.state id (length unit)) ≡ load_refused g id (length unit) (full_at p id (length unit) es)
      go true f = rw f
      go false f = let h : id ≤ 2 = ltb-false 2 id f in ap (load_refused g id (length unit)) (full_seen id (length unit) (omega arith))

  room_seen : (g : Settings) (id : ℕ) (unit : List ℕ) → g.p ≡ p → Allowed g → 1 ≤ length unit → length unit ≤ 4096 → id ≤ 2
      → (number_of (load g id unit) y ≡ 0) ↔ ((length unit + add_up same (map length (left_of p id es)) ≤ 4096) × (length (left_of p id es) < 8))
  unfolding unsent
  room_seen g id unit e al lo hi h =
      let r = accepted_exactly p y m.good g id unit e al lo hi h in
      let c = count_seen p es y m id (omega arith) in
      let u : add_up same (units (queue_of y.state id)) ≡ add_up same (map length (left_of p id es)) = ap (add_up same) (units_seen p es y m id (omega arith)) in (
        λ z. let f = r.0 z in (omega (arith, f.0), omega (arith, f.1)),
        λ f. r.1 (omega (arith, f.0), omega (arith, f.1)),
      )

-- ---- the condition
module _ (p : ℕ) (acts : List Act) (store : List ℕ) (hs : length store ≡ 12288) (st : Stands p (log acts (fresh_desk store))) where
  abbrev E : List Event
  E = log acts (fresh_desk store)

  at_call : (c : Called E) → Here p c.before c.act c.answer c.behind
  at_call c = here p acts store hs st c.before c.act c.answer c.behind c.there

  number_at : (c : Called E) → number_of c.act (at_call c).desk ≡ c.answer.number
  number_at c = sym (number_is c.act (at_call c).desk) ∙ sym (ap (λ (b : Answer). b.number) (at_call c).answered)

  module _ (f : Written E) where
    pub at_frame : Here p f.before (frame f.g f.lent) f.answer f.behind
    at_frame = here p acts store hs st f.before (frame f.g f.lent) f.answer f.behind f.there

    pub zero_at : number_of (frame f.g f.lent) at_frame.desk ≡ 0
    zero_at = sym (number_is (frame f.g f.lent) at_frame.desk) ∙ sym (ap (λ (b : Answer). b.number) at_frame.answered) ∙ f.done

    count : Answer → ℕ → ℕ
    count b id = length (of_id f.g.p id (split (f.g.p + 3) f.g.n b.out))

    frame_in : (P : (ℕ → ℕ) → Type 0) → P (count (answer (frame f.g f.lent) at_frame.desk)) → P (carries f)
    unfolding count
    frame_in P h = subst (λ (b : Answer). P (count b)) (sym at_frame.answered) h

    abbrev ready : Mirror p f.before at_frame.desk
    ready = at_frame.seen

    shared : (id : ℕ) → id < 3 → min (at f.g.share id) (waiting_at p id f.before) ≤ carries f id
    unfolding count
    shared id h =
        frame_in (λ (n : ℕ → ℕ). min (at f.g.share id) (waiting_at p id f.before) ≤ n id)
        (share_in p f.before at_frame.desk ready f.g (at_frame.same f.done) f.lent zero_at id h)

    capped : (id : ℕ) → id < 3 → carries f id ≤ at f.g.ceiling id
    unfolding count
    capped id h =
        frame_in (λ (n : ℕ → ℕ). n id ≤ at f.g.ceiling id)
        (ceiling_in p f.before at_frame.desk ready f.g (at_frame.same f.done) f.lent zero_at id h)

    filled : 1 ≤ carries f 3 → (id : ℕ) → id < 3 → carries f id ≡ min (waiting_at p id f.before) (at f.g.ceiling id)
    unfolding count
    filled =
        frame_in (λ (n : ℕ → ℕ). 1 ≤ n 3 → (id : ℕ) → id < 3 → n id ≡ min (waiting_at p id f.before) (at f.g.ceiling id))
        (filler_in p f.before at_frame.desk ready f.g (at_frame.same f.done) f.lent zero_at)

  pub taken_id : (u : Taken E) → u.id < 3
  taken_id u =
      let c = here p acts store hs st u.before (load u.g u.id u.unit) u.answer (u.next ++ u.behind) u.there in
      small p u.id u.unit u.before u.g u.answer (u.next ++ u.behind) c u.done u.next u.behind refl

  by_sum : (u : Taken E) → waiting_with p u ≤ add_up same (shares_of u.id u.next) → SentWithin p u
  by_sum u l =
      let c = here p acts store hs st u.before (load u.g u.id u.unit) u.answer (u.next ++ u.behind) u.there in
      sent_here p u.id u.unit u.before u.g u.answer (u.next ++ u.behind) c u.done u.next u.behind refl (waiting_with p u) refl l

  pub condition : Condition p E
  unfolding frame_refused
  condition =
      record {
        share = shared;
        ceiling = capped;
        filler = filled;
        delay = λ u s n ls e l. by_sum u (omega (arith, ap (add_up same) e, sum_same n s, over_le (waiting_with p u) s n ls l));
        by_shares = by_sum;
        never_17 = λ c e n. never_17 p (at_call c).desk (at_call c).seen.good c.act e (number_at c ∙ n);
        frames = λ c g out a e. sym (number_at c) ∙ ap (λ (i : Act). number_of i (at_call c).desk) a ∙ frame_refused_for p (at_call c).desk (at_call c).seen.good g out e;
        loads = λ c g id unit a e.
            sym (number_at c) ∙ ap (λ (i : Act). number_of i (at_call c).desk) a ∙ load_number_law p c.before (at_call c).desk (at_call c).seen g id unit e;
        room = λ c g id unit a e al lo hi h.
            subst (λ (n : ℕ). (n ≡ 0) ↔ ((length unit + add_up same (map length (left_of p id c.before)) ≤ 4096) × (length (left_of p id c.before) < 8)))
            (ap (λ (i : Act). number_of i (at_call c).desk) (sym a) ∙ number_at c) (room_seen p c.before (at_call c).desk (at_call c).seen g id unit e al lo hi h);
      }
