-- Every state of a run is good: the fresh one is, and every call keeps it so. A good state is never refused with 17 (C4), and a load
-- is accepted exactly if there is room (C5). Assumes nothing.
use Prim.Native.Nat.{ℕ, zero, suc, ◌+◌, ◌*◌, ◌<◌, ◌≤◌}
use mathlib.Core.Path.{◌≡◌, refl, sym, ◌∙◌, subst}
use mathlib.Core.List.{List, [], ◌∷◌}
use mathlib.Core.Bool.{Bool, true, false, not}
use mathlib.Core.Logic.{◌↔◌}
use native.Mathlib.Omega.{arith}
use borrow.Author.Tests.{eq-eqb, ne_eqb, le-ltb, eqb-true, eqb-false}
use lib.Dec.{eqb, ltb, lit<}
use lib.ListN.{length, get_or, set, length-set}
use lib.Seq.{get_or-set_same, get_or-set_other}
use Rattle.laws.specs.Pick.{pick}
use Rattle.laws.specs.Refuse.{refused_with}
use Rattle.laws.proofs.Written.{written_length}
use Rattle.hand.specs.Settings.{settings_for, Allowed}
use Rattle.hand.specs.Hand.{no_three}
use Rattle.hand.specs.declared.Settings.{Settings}
use Rattle.hand.proofs.Allowed.{allowed, allowed_back}
use Rattle.hand.proofs.Turn.{hand_turn}
use Rattle.moves.proofs.Turns.{pulled_length}
use Rattle.queue.specs.Queue.{unsent, pushed}
use Rattle.queue.specs.declared.Queue.{Queue}
use Rattle.queue.proofs.Faults.{Sound, sound_ok}
use Rattle.queue.proofs.Keep.{none_sound, sound_push}
use Rattle.row.specs.Private.{InRegion}
use Rattle.row.specs.declared.Out.{Out}
use Rattle.row.proofs.Steps.{whole_of, whole_steps, sound_in}
use Rattle.sender.specs.State.{no_queue, queue_of, index_of, out_of, fresh, broken_state, put_queue, waiting_of}
use Rattle.sender.specs.Load.{full, load_tests, load_number, loaded, placed_in, load_for, store_for}
use Rattle.sender.specs.Private.{Accepted}
use Rattle.sender.specs.Frame.{hand_of, end_of, ends_of, next_from, closed, closed_all, frame_tests, frame_number, framed, frame_for, store_after}
use Rattle.sender.specs.declared.Front.{Front}
use Rattle.sender.proofs.Faults.{fine_back}
use Rattle.sender.proofs.Loading.{passed, passed_back}
use Rattle.sender.proofs.Framing.{fit_of}
use Rattle.demand.specs.Run.{Act, load, frame, Desk, settings_of, number_of, after, run, Steady}

pub record Good (p : ℕ) (x : Desk) : Type 0 where
  pub three : length x.state.q ≡ 3
  pub queues : (id : ℕ) → id < 3 → Sound p (queue_of x.state id)
  pub turn : x.state.turn ≤ 2
  pub indexes : (id : ℕ) → id < 4 → index_of x.state id ≤ 7
  pub store : length x.store ≡ 12288

-- ---- the fresh state
pub fresh_good : (p : ℕ) (store : List ℕ) → length store ≡ 12288 → Good p (record { state = fresh; store = store })
unfolding fresh
fresh_good p store l = record { three = refl; queues = qs; turn = omega arith; indexes = is; store = l }
  where
    qs : (id : ℕ) → id < 3 → Sound p (queue_of fresh id)
    qs zero h = none_sound p
    qs (suc zero) h = none_sound p
    qs (suc (suc zero)) h = none_sound p
    qs (suc (suc (suc id))) h = absurd (omega arith)

    is : (id : ℕ) → id < 4 → index_of fresh id ≤ 7
    is zero h = omega arith
    is (suc zero) h = omega arith
    is (suc (suc zero)) h = omega arith
    is (suc (suc (suc zero))) h = omega arith
    is (suc (suc (suc (suc id)))) h = absurd (omega arith)

-- ---- no fault
pub good_fine : (p : ℕ) (x : Desk) → Good p x → broken_state p x.state ≡ false
good_fine p x k =
    fine_back p x.state
    (record {
      q0 = sound_ok p _ (k.queues 0 (lit< tt));
      q1 = sound_ok p _ (k.queues 1 (lit< tt));
      q2 = sound_ok p _ (k.queues 2 (lit< tt));
      turn = k.turn;
      i0 = k.indexes 0 (lit< tt);
      i1 = k.indexes 1 (lit< tt);
      i2 = k.indexes 2 (lit< tt);
      i3 = k.indexes 3 (lit< tt);
    })

-- ---- lists of three and of four
three_of : (P : Queue → Type 0) (a b c : Queue) → P a → P b → P c → (id : ℕ) → id < 3 → P (get_or (a ∷ b ∷ c ∷ []) id no_queue)
three_of P a b c x y z zero h = x
three_of P a b c x y z (suc zero) h = y
three_of P a b c x y z (suc (suc zero)) h = z
three_of P a b c x y z (suc (suc (suc id))) h = absurd (omega arith)

four_of : (a b c d : ℕ) → a ≤ 7 → b ≤ 7 → c ≤ 7 → d ≤ 7 → (id : ℕ) → id < 4 → get_or (a ∷ b ∷ c ∷ d ∷ []) id 0 ≤ 7
four_of a b c d x y z w zero h = x
four_of a b c d x y z w (suc zero) h = y
four_of a b c d x y z w (suc (suc zero)) h = z
four_of a b c d x y z w (suc (suc (suc zero))) h = w
four_of a b c d x y z w (suc (suc (suc (suc id)))) h = absurd (omega arith)

-- ---- a load
put_at_law : (l : List Queue) (id j : ℕ) (q : Queue) → id < length l → (b : Bool) → eqb j id ≡ b → get_or (set l id q) j no_queue ≡ pick b q (get_or l j no_queue)
put_at_law l id j q h true e = let z : j ≡ id = eqb-true j id e in rw z (get_or-set_same l id q no_queue h)
put_at_law l id j q h false e = get_or-set_other l id j q no_queue (eqb-false j id e)

pub loaded_queue : (s : Front) (id j n : ℕ) → length s.q ≡ 3 → id < 3
    → queue_of (loaded s id n) j ≡ pick (eqb j id) (pushed (queue_of s id) n) (queue_of s j)
unfolding loaded put_queue
loaded_queue s id j n l h = put_at_law s.q id j (pushed (queue_of s id) n) (omega arith) (eqb j id) refl

module _ (p : ℕ) (x : Desk) (k : Good p x) where
  pub taken_good : (id : ℕ) (unit : List ℕ) → Accepted x.state id (length unit) (length x.store)
      → Good p (record { state = loaded x.state id (length unit); store = placed_in x.state id unit x.store })
  unfolding loaded put_queue placed_in
  taken_good id unit a =
      let q = queue_of x.state id in
      let f = a.fits in
      let i = a.id_in in
      let w = a.whole in
      record {
        three = length-set x.state.q id (pushed q (length unit)) ∙ k.three;
        queues = λ j h. subst (Sound p) (sym (put_at_law x.state.q id j (pushed q (length unit)) (let t = k.three in omega arith) (eqb j id) refl)) (each j h (eqb j id));
        turn = k.turn;
        indexes = k.indexes;
        store = written_length x.store (id * 4096 + unsent q) unit (omega arith) ∙ k.store;
      }
    where
      each : (j : ℕ) → j < 3 → (b : Bool) → Sound p (pick b (pushed (queue_of x.state id) (length unit)) (queue_of x.state j))
      each j h true = sound_push p (queue_of x.state id) (length unit) (k.queues id a.id_in) a.one a.count_in a.fits
      each j h false = k.queues j h

  load_good : (g : Settings) (id : ℕ) (unit : List ℕ) → Good p (after (load g id unit) x)
  unfolding after load_for store_for load_number
  load_good g id unit = go (eqb (refused_with (load_tests g x.state id (length unit) (length x.store))) 0) refl
    where
      go : (b : Bool) → eqb (refused_with (load_tests g x.state id (length unit) (length x.store))) 0 ≡ b
          → Good p (record { state = pick b (loaded x.state id (length unit)) x.state; store = pick b (placed_in x.state id unit x.store) x.store })
      go false e = k
      go true e = taken_good id unit (passed g x.state id (length unit) (length x.store) (eqb-true _ _ e)).unit

  -- ---- a frame
  pub out_whole : (id : ℕ) → id < 3 → InRegion p (out_of x.state id) 4096
  out_whole id h =
      let q = k.queues id h in
      let i = k.indexes id (omega arith) in
      whole_of p 4096 (out_of x.state id) q (let b = q.bytes in omega arith) (omega arith)

  pub end_whole : 1 ≤ p → (id n : ℕ) → id < 3 → InRegion p (end_of p x.state id n) 4096
  end_whole hp id n h = whole_steps p 4096 n (out_of x.state id) hp (out_whole id h)

  closed_length : (store : List ℕ) (id : ℕ) (o : Out) → length (closed store id o) ≡ length store
  unfolding closed
  closed_length store id o = pulled_length store (id * 4096) (id * 4096 + o.at) (unsent o.q)

module _ (g : Settings) (x : Desk) (k : Good g.p x) where
  turn_in : Allowed g → (hand_of g x.state).turn ≤ 2
  unfolding hand_of
  turn_in al = hand_turn g (waiting_of g.p x.state) x.state.turn al k.turn

  pub framed_good : Allowed g → Good g.p (record { state = (framed g x.state).next; store = closed_all g.p x.state (hand_of g x.state).packets x.store })
  unfolding framed next_from ends_of closed_all
  framed_good al =
      let p = g.p in
      let n = (hand_of g x.state).packets in
      let a = end_whole p x k al.low 0 n.a (lit< tt) in
      let b = end_whole p x k al.low 1 n.b (lit< tt) in
      let c = end_whole p x k al.low 2 n.c (lit< tt) in
      record {
        three = refl;
        queues = three_of (λ (q : Queue). Sound p q) _ _ _ (sound_in p 4096 _ a) (sound_in p 4096 _ b) (sound_in p 4096 _ c);
        turn = turn_in al;
        indexes = four_of _ _ _ _ (let i = a.index in omega arith) (let i = b.index in omega arith) (let i = c.index in omega arith) (omega arith);
        store = closed_length p x k _ 2 _ ∙ closed_length p x k _ 1 _ ∙ closed_length p x k x.store 0 _ ∙ k.store;
      }

  frame_good : (out : List ℕ) → Good g.p (after (frame g out) x)
  unfolding after frame_for store_after frame_number
  frame_good out = go (eqb (refused_with (frame_tests g x.state (length x.store) (length out))) 0) refl
    where
      go : (b : Bool) → eqb (refused_with (frame_tests g x.state (length x.store) (length out))) 0 ≡ b
          → Good g.p
          (record {
            state =
                (pick b (framed g x.state)
                (record {
                  number = refused_with (frame_tests g x.state (length x.store) (length out));
                  next = x.state;
                  packets = no_three;
                  spares = 0;
                  filler = 0;
                })).next;
            store = pick b (closed_all g.p x.state (hand_of g x.state).packets x.store) x.store;
          })
      go false e = k
      go true e = framed_good (allowed g (fit_of g x.state (length x.store) (length out) (eqb-true _ _ e)).allowed_in)

-- ---- a run
pub after_good : (p : ℕ) (a : Act) (x : Desk) → (settings_of a).p ≡ p → Good p x → Good p (after a x)
after_good p (load g id unit) x e k = load_good p x k g id unit
after_good p (frame g out) x e k = subst (λ (q : ℕ). Good q (after (frame g out) x)) e (frame_good g x (subst (λ (q : ℕ). Good q x) (sym e) k) out)

pub run_good : (p : ℕ) (acts : List Act) (x : Desk) → Steady p acts → Good p x → Good p (run acts x)
unfolding run
run_good p [] x st k = k
run_good p (a ∷ rest) x st k = run_good p rest (after a x) st.1 (after_good p a x st.0 k)

-- ---- C4
other_17 : (a b : Bool) → ◌≡◌ {A = ℕ} (pick a 13 (pick b 1 0)) 17 → ⊥
other_17 true b h = omega arith
other_17 false true h = omega arith
other_17 false false h = omega arith

load_other : (a b c d f h i : Bool) → ◌≡◌ {A = ℕ} (pick a 13 (pick b 1 (pick c 1 (pick d 14 (pick f 14 (pick h 14 (pick i 15 0))))))) 17 → ⊥
load_other true b c d f h i e = omega arith
load_other false true c d f h i e = omega arith
load_other false false true d f h i e = omega arith
load_other false false false true f h i e = omega arith
load_other false false false false true h i e = omega arith
load_other false false false false false true i e = omega arith
load_other false false false false false false true e = omega arith
load_other false false false false false false false e = omega arith

module _ (p : ℕ) (x : Desk) (k : Good p x) where
  fine_here : (g : Settings) → g.p ≡ p → broken_state g.p x.state ≡ false
  fine_here g e = rw e (good_fine p x k)

  -- a frame is refused only for what is newly handed in: settings outside the limits, an output that is too short
  pub frame_refused_for : (g : Settings) (out : List ℕ) → g.p ≡ p
      → number_of (frame g out) x ≡ pick (not (eqb (settings_for g) 0)) 13 (pick (ltb (length out) (g.n * (g.p + 3))) 1 0)
  unfolding number_of frame_number frame_tests
  frame_refused_for g out e = simp (fine_here g e, eq-eqb (length x.store) 12288 k.store)

  -- with allowed settings, a load of 1 to 4,096 bytes on ids 0 to 2 only for 15
  pub load_refused_for : (g : Settings) (id : ℕ) (unit : List ℕ) → g.p ≡ p → Allowed g → 1 ≤ length unit → length unit ≤ 4096 → id ≤ 2
      → number_of (load g id unit) x ≡ pick (full x.state id (length unit)) 15 0
  unfolding number_of load_number load_tests
  load_refused_for g id unit e al lo hi hid =
      simp (
        allowed_back g al,
        fine_here g e,
        eq-eqb (length x.store) 12288 k.store,
        le-ltb 65528 (length unit) (omega arith),
        ne_eqb (length unit) 0 (λ z. omega arith),
        le-ltb 4096 (length unit) hi,
        le-ltb 2 id hid,
      )

  load_17 : (g : Settings) (id : ℕ) (unit : List ℕ) → g.p ≡ p → number_of (load g id unit) x ≡ 17 → ⊥
  unfolding number_of load_number load_tests
  load_17 g id unit e h =
      load_other (not (eqb (settings_for g) 0)) (not (eqb (length x.store) 12288)) (ltb 65528 (length unit)) (eqb (length unit) 0) (ltb 4096 (length unit)) (ltb 2 id)
      (full x.state id (length unit)) (simp (fine_here g e) at h)

  -- 17 is never met
  pub never_17 : (a : Act) → (settings_of a).p ≡ p → number_of a x ≡ 17 → ⊥
  never_17 (load g id unit) e h = load_17 g id unit e h
  never_17 (frame g out) e h = other_17 (not (eqb (settings_for g) 0)) (ltb (length out) (g.n * (g.p + 3))) (sym (frame_refused_for g out e) ∙ h)

  -- C5: accepted exactly if its length plus its queue's bytes not yet sent is at most 4,096 and fewer than eight of its units are unfinished
  pub accepted_exactly : (g : Settings) (id : ℕ) (unit : List ℕ) → g.p ≡ p → Allowed g → 1 ≤ length unit → length unit ≤ 4096 → id ≤ 2
      → (number_of (load g id unit) x ≡ 0) ↔ ((length unit + unsent (queue_of x.state id) ≤ 4096) × ((queue_of x.state id).count < 8))
  unfolding number_of load_number
  accepted_exactly g id unit e al lo hi hid = (
    λ z. let a = (passed g x.state id (length unit) (length x.store) z).unit in (a.fits, a.count_in),
    λ r.
        passed_back g x.state id (length unit) (length x.store)
        (record {
          allowed_in = allowed_back g al;
          fine = fine_here g e;
          unit = record { one = lo; most = hi; id_in = omega arith; count_in = r.1; fits = r.0; whole = k.store };
        }),
  )

-- over every run from fresh, with p unchanged
pub run_never_17 : (p : ℕ) (acts : List Act) (a : Act) (store : List ℕ) → length store ≡ 12288 → Steady p acts → (settings_of a).p ≡ p
    → number_of a (run acts (record { state = fresh; store = store })) ≡ 17 → ⊥
run_never_17 p acts a store l st e = never_17 p _ (run_good p acts _ st (fresh_good p store l)) a e
