-- The refusals of a state with counts and starts: 17 in one test, and the numbers by the way taken. Assumes nothing.
use Prim.Native.Nat.{ℕ, zero, suc, ◌+◌, ◌*◌, ◌≤◌, ◌<◌}
use mathlib.Core.Path.{◌≡◌, refl, sym, ◌∙◌, subst}
use mathlib.Core.Bool.{Bool, true, false, not, ◌||◌}
use native.Mathlib.Omega.{arith}
use borrow.Author.Tests.{eq-eqb, ne_eqb, lt-ltb, le-ltb, eqb-true, eqb-false, ltb-false, not-false}
use lib.Dec.{ltb, eqb, lit<}
use lib.ListN.{get_or}
use Rattle.laws.specs.Pick.{pick}
use Rattle.laws.specs.Refuse.{refused_with}
use Rattle.laws.proofs.Flags.{or_true, or_false}
use Rattle.laws.proofs.Refuse.{free}
use Rattle.hand.specs.Settings.{settings_for}
use Rattle.hand.specs.declared.Settings.{Settings}
use Rattle.hand.proofs.Allowed.{allowed}
use Rattle.queue.specs.Queue.{broken}
use Rattle.queue.specs.Stored.{miscounts, wrong}
use Rattle.queue.specs.declared.Queue.{Queue}
use Rattle.sender.specs.State.{queue_of, broken_state}
use Rattle.sender.specs.Load.{full, load_tests}
use Rattle.sender.specs.Frame.{frame_tests}
use Rattle.sender.specs.Kept.{Kept, stored_of, miscounted, kept_load_tests, kept_frame_tests}
use Rattle.sender.specs.Rings.{front_of, kept_of, ring_start, strayed, ring_load_tests, ring_frame_tests}
use Rattle.sender.specs.Private.{faulty, unit_tests, Entering, Going}
use Rattle.sender.specs.declared.Sender.{Sender}
use Rattle.sender.proofs.Faults.{broken_at, broken_turn, broken_index, broken_rest}
use Rattle.sender.proofs.Loading.{passed}
use Rattle.sender.proofs.Framing.{fit_of}

-- ---- refusal 17
-- a queue that is not wrong: no fault, and its count is the sum
fine : (p : ℕ) (q : Queue) (n : ℕ) → wrong p q n ≡ false → (broken p q ≡ false) × (miscounts p q n ≡ false)
unfolding wrong
fine p q n e = or_false (broken p q) (miscounts p q n) e

miscounted_at : (p : ℕ) (k : Kept) (id : ℕ) → id < 3 → miscounts p (queue_of k.front id) (stored_of k id) ≡ true → true ≡ miscounted p k
unfolding miscounted
miscounted_at p k zero h e = simp e
miscounted_at p k (suc zero) h e = simp (e, or_true)
miscounted_at p k (suc (suc zero)) h e = simp (e, or_true)
miscounted_at p k (suc (suc (suc id))) h e = absurd (omega arith)

pub strayed_at : (s : Sender) (id : ℕ) → id < 3 → 4095 < ring_start s id → true ≡ strayed s
unfolding strayed
strayed_at s zero h k = simp (lt-ltb _ _ k)
strayed_at s (suc zero) h k = simp (lt-ltb _ _ k, or_true)
strayed_at s (suc (suc zero)) h k = simp (lt-ltb _ _ k, or_true)
strayed_at s (suc (suc (suc id))) h k = absurd (omega arith)

pub strayed_last : (s : Sender) → ring_start s 0 ≤ 4095 → ring_start s 1 ≤ 4095 → ltb 4095 (ring_start s 2) ≡ strayed s
unfolding strayed
strayed_last s h k = simp (le-ltb _ _ h, le-ltb _ _ k)

pub none_strayed : (s : Sender) → ((id : ℕ) → id < 3 → ring_start s id ≤ 4095) → strayed s ≡ false
unfolding strayed
none_strayed s h = simp (le-ltb _ _ (h 0 (lit< tt)), le-ltb _ _ (h 1 (lit< tt)), le-ltb _ _ (h 2 (lit< tt)))

module _ (p : ℕ) (s : Sender) where
  pub faulty_start : (b : Bool) → b ≡ strayed s → b ≡ true → true ≡ faulty p s
  unfolding faulty
  faulty_start b e h = simp (← e, h)

  faulty_count : true ≡ miscounted p (kept_of s) → true ≡ faulty p s
  unfolding faulty
  faulty_count e = simp (← e, or_true)

  faulty_front : true ≡ broken_state p (front_of s) → true ≡ faulty p s
  unfolding faulty
  faulty_front e = simp (← e, or_true)

  pub faulty_queue : (id : ℕ) → id < 3 → (b : Bool) → b ≡ wrong p (queue_of (front_of s) id) (stored_of (kept_of s) id) → b ≡ true → true ≡ faulty p s
  unfolding wrong
  faulty_queue id h b e t = go (broken p (queue_of (front_of s) id)) refl (sym e ∙ t)
    where
      go : (x : Bool) → broken p (queue_of (front_of s) id) ≡ x → x || miscounts p (queue_of (front_of s) id) (stored_of (kept_of s) id) ≡ true → true ≡ faulty p s
      go true ex z = faulty_front (broken_at p (front_of s) id h ex)
      go false ex z = faulty_count (miscounted_at p (kept_of s) id h z)

  pub faulty_turn : 2 < s.turn → true ≡ faulty p s
  faulty_turn h = faulty_front (broken_turn p (front_of s) h)

  pub faulty_index : (i : ℕ) → i < 4 → 7 < get_or s.index i 0 → true ≡ faulty p s
  faulty_index i h k = faulty_front (broken_index p (front_of s) i h k)

  -- none of the first i queues is wrong
  pub record Looked (i : ℕ) : Type 0 where
    pub within : i ≤ 3
    pub none : (id : ℕ) → id < i → wrong p (queue_of (front_of s) id) (stored_of (kept_of s) id) ≡ false

  pub looked_none : Looked 0
  looked_none = record { within = omega arith; none = λ id h. absurd (omega arith) }

  pub looked_more : (i : ℕ) → i < 3 → (b : Bool) → b ≡ wrong p (queue_of (front_of s) i) (stored_of (kept_of s) i) → b ≡ false → Looked i → Looked (i + 1)
  looked_more i h b e f k = record { within = omega arith; none = λ id hid. go id hid (eqb id i) refl }
    where
      go : (id : ℕ) → id < i + 1 → (c : Bool) → eqb id i ≡ c → wrong p (queue_of (front_of s) id) (stored_of (kept_of s) id) ≡ false
      go id hid true ec =
          let z : id ≡ i = eqb-true id i ec in
          subst (λ (j : ℕ). wrong p (queue_of (front_of s) j) (stored_of (kept_of s) j) ≡ false) (sym z) (sym e ∙ f)
      go id hid false ec = let z : id ≡ i → ⊥ = eqb-false id i ec in k.none id (omega arith)

  pub faulty_rest : (i : ℕ) → 3 ≤ i → Looked i → (b : Bool) → b ≡ strayed s → b ≡ false → s.turn ≤ 2 → get_or s.index 0 0 ≤ 7 → get_or s.index 1 0 ≤ 7
      → get_or s.index 2 0 ≤ 7 → ltb 7 (get_or s.index 3 0) ≡ faulty p s
  unfolding faulty miscounted
  faulty_rest i h k b eb hb ht h0 h1 h2 =
      let x = fine p (queue_of (front_of s) 0) (stored_of (kept_of s) 0) (k.none 0 (omega arith)) in
      let y = fine p (queue_of (front_of s) 1) (stored_of (kept_of s) 1) (k.none 1 (omega arith)) in
      let z = fine p (queue_of (front_of s) 2) (stored_of (kept_of s) 2) (k.none 2 (omega arith)) in
      simp (← eb, hb, x.1, y.1, z.1) (broken_rest p (front_of s) x.0 y.0 z.0 ht h0 h1 h2)

-- ---- 13 and 17 of all three lists are tried once
flat : (a s m b : Bool) (x : ℕ) → pick a 13 (pick s 17 (pick a 13 (pick m 17 (pick a 13 (pick b 17 x))))) ≡ pick a 13 (pick (s || (m || b)) 17 x)
flat true s m b x = refl
flat false true m b x = refl
flat false false true b x = refl
flat false false false true x = refl
flat false false false false x = refl

-- where nothing is refused
module _ (a b : Bool) (x : ℕ) where
  pub within : pick a 13 (pick b 17 x) ≡ 0 → (b ≡ false) × (x ≡ 0)
  within e = go a b e
    where
      go : (a b : Bool) → pick a 13 (pick b 17 x) ≡ 0 → (b ≡ false) × (x ≡ 0)
      go true b e = absurd (omega arith)
      go false true e = absurd (omega arith)
      go false false e = (refl, e)

module _ (g : Settings) (s : Sender) (room size : ℕ) where
  frame_flat : refused_with (ring_frame_tests g s room size)
      ≡ pick (not (eqb (settings_for g) 0)) 13 (pick (faulty g.p s) 17 (pick (not (eqb room 12288)) 1 (pick (ltb size (g.n * (g.p + 3))) 1 0)))
  unfolding ring_frame_tests kept_frame_tests frame_tests faulty
  frame_flat = flat (not (eqb (settings_for g) 0)) (strayed s) (miscounted g.p (kept_of s)) (broken_state g.p (front_of s)) _

  pub frame_13 : (k : ℕ) → k ≡ settings_for g → (k ≡ 0 → ⊥) → 13 ≡ refused_with (ring_frame_tests g s room size)
  frame_13 k e h = rw frame_flat (simp (← e, ne_eqb k 0 h))

  module _ (ek : 0 ≡ settings_for g) (b : Bool) (eb : b ≡ faulty g.p s) where
    pub frame_17 : b ≡ true → 17 ≡ refused_with (ring_frame_tests g s room size)
    frame_17 h = rw frame_flat (simp (← ek, ← eb, h))

    module _ (hb : b ≡ false) where
      pub frame_1 : (room ≡ 12288 → ⊥) → 1 ≡ refused_with (ring_frame_tests g s room size)
      frame_1 h = rw frame_flat (simp (← ek, ← eb, hb, ne_eqb _ _ h))

      module _ (hr : room ≡ 12288) where
        pub frame_1_late : size < g.n * (g.p + 3) → 1 ≡ refused_with (ring_frame_tests g s room size)
        frame_1_late h = rw frame_flat (simp (← ek, ← eb, hb, eq-eqb _ _ hr, lt-ltb _ _ h))

        pub frame_0 : g.n * (g.p + 3) ≤ size → 0 ≡ refused_with (ring_frame_tests g s room size)
        frame_0 h = rw frame_flat (simp (← ek, ← eb, hb, eq-eqb _ _ hr, le-ltb _ _ h))

  pub going_of : refused_with (ring_frame_tests g s room size) ≡ 0 → Going g s room size
  unfolding ring_frame_tests kept_frame_tests
  going_of e =
      let a = not (eqb (settings_for g) 0) in
      let l = within a (strayed s) (refused_with (kept_frame_tests g (kept_of s) room size)) e in
      let k = within a (miscounted g.p (kept_of s)) (refused_with (frame_tests g (front_of s) room size)) l.1 in
      record { starts = l.0; right = k.0; fit = fit_of g (front_of s) room size k.1 }

-- 15 is tried where nothing else refuses
late : (a b c d e f g u : Bool)
    → ◌≡◌ {A = ℕ} (pick a 13 (pick b 17 (pick c 1 (pick d 1 (pick e 14 (pick f 14 (pick g 14 (pick u 15 0))))))))
    (pick (eqb (pick a 13 (pick b 17 (pick c 1 (pick d 1 (pick e 14 (pick f 14 (pick g 14 0))))))) 0) (pick u 15 0)
    (pick a 13 (pick b 17 (pick c 1 (pick d 1 (pick e 14 (pick f 14 (pick g 14 0))))))))
late true b c d e f g u = refl
late false true c d e f g u = refl
late false false true d e f g u = refl
late false false false true e f g u = refl
late false false false false true f g u = refl
late false false false false false true g u = refl
late false false false false false false true u = refl
late false false false false false false false u = refl

module _ (g : Settings) (s : Sender) (id n room : ℕ) where
  pub load_late : refused_with (ring_load_tests g s id n room)
      ≡ pick (eqb (refused_with (unit_tests g s id n room)) 0) (pick (full (front_of s) id n) 15 0) (refused_with (unit_tests g s id n room))
  unfolding ring_load_tests kept_load_tests load_tests unit_tests faulty
  load_late =
      flat (not (eqb (settings_for g) 0)) (strayed s) (miscounted g.p (kept_of s)) (broken_state g.p (front_of s)) _
      ∙ late (not (eqb (settings_for g) 0)) (strayed s || (miscounted g.p (kept_of s) || broken_state g.p (front_of s))) (not (eqb room 12288)) (ltb 65528 n) (eqb n 0) (ltb 4096 n) (ltb 2 id)
      (full (front_of s) id n)

  pub load_13 : (k : ℕ) → k ≡ settings_for g → (k ≡ 0 → ⊥) → 13 ≡ refused_with (unit_tests g s id n room)
  unfolding unit_tests
  load_13 k e h = simp (← e, ne_eqb k 0 h)

  module _ (ek : 0 ≡ settings_for g) (b : Bool) (eb : b ≡ faulty g.p s) where
    pub load_17 : b ≡ true → 17 ≡ refused_with (unit_tests g s id n room)
    unfolding unit_tests
    load_17 h = simp (← ek, ← eb, h)

    module _ (hb : b ≡ false) where
      pub load_1 : (room ≡ 12288 → ⊥) → 1 ≡ refused_with (unit_tests g s id n room)
      unfolding unit_tests
      load_1 h = simp (← ek, ← eb, hb, ne_eqb _ _ h)

      module _ (hr : room ≡ 12288) where
        pub load_1_unit : 65528 < n → 1 ≡ refused_with (unit_tests g s id n room)
        unfolding unit_tests
        load_1_unit h = simp (← ek, ← eb, hb, eq-eqb _ _ hr, lt-ltb _ _ h)

        module _ (hl : n ≤ 65528) where
          pub load_14_empty : n ≡ 0 → 14 ≡ refused_with (unit_tests g s id n room)
          unfolding unit_tests
          load_14_empty h = simp (← ek, ← eb, hb, eq-eqb _ _ hr, le-ltb _ _ hl, eq-eqb _ _ h)

          module _ (hn : n ≡ 0 → ⊥) where
            pub load_14_long : 4096 < n → 14 ≡ refused_with (unit_tests g s id n room)
            unfolding unit_tests
            load_14_long h = simp (← ek, ← eb, hb, eq-eqb _ _ hr, le-ltb _ _ hl, ne_eqb _ _ hn, lt-ltb _ _ h)

            module _ (hm : n ≤ 4096) where
              pub load_14_id : 2 < id → 14 ≡ refused_with (unit_tests g s id n room)
              unfolding unit_tests
              load_14_id h = simp (← ek, ← eb, hb, eq-eqb _ _ hr, le-ltb _ _ hl, ne_eqb _ _ hn, le-ltb _ _ hm, lt-ltb _ _ h)

              pub load_0 : id ≤ 2 → 0 ≡ refused_with (unit_tests g s id n room)
              unfolding unit_tests
              load_0 h = simp (← ek, ← eb, hb, eq-eqb _ _ hr, le-ltb _ _ hl, ne_eqb _ _ hn, le-ltb _ _ hm, le-ltb _ _ h)

  -- what is known of a unit where its queue's room is looked at
  pub record Offered : Type 0 where
    pub high : g.p ≤ 255
    pub most : n ≤ 4096
    pub id_in : id < 3

  pub offered_of : refused_with (unit_tests g s id n room) ≡ 0 → Offered
  unfolding unit_tests
  offered_of e =
      let t = free (unit_tests g s id n room) (lit< tt, (lit< tt, (lit< tt, (lit< tt, (lit< tt, (lit< tt, (lit< tt, tt))))))) e in
      let i : id ≤ 2 = ltb-false 2 id t.1.1.1.1.1.1.0 in
      record {
        high = (allowed g (eqb-true (settings_for g) 0 (not-false (eqb (settings_for g) 0) t.0))).high;
        most = ltb-false 4096 n t.1.1.1.1.1.0;
        id_in = omega arith;
      }

  -- and of an accepted one
  pub entering_of : refused_with (ring_load_tests g s id n room) ≡ 0 → Entering g.p s id n room
  unfolding ring_load_tests kept_load_tests
  entering_of e =
      let a = not (eqb (settings_for g) 0) in
      let j = within a (strayed s) (refused_with (kept_load_tests g (kept_of s) id n room)) e in
      let k = within a (miscounted g.p (kept_of s)) (refused_with (load_tests g (front_of s) id n room)) j.1 in
      let l = passed g (front_of s) id n room k.1 in
      record { low = (allowed g l.allowed_in).low; starts = j.0; right = k.0; unit = l.unit }
