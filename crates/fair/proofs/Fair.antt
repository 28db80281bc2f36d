-- Fair spares over any run of calls (E11 of 02). Of the sender only this is used: a load and a refused call keep the turn, and the next turn of a
-- frame is the hand-out's. Assumes nothing.
use Prim.Native.Nat.{ℕ, ◌+◌, ◌-◌, ◌<◌, ◌≤◌, min}
use mathlib.Core.Path.{◌≡◌, refl, sym, ap, ◌∙◌}
use mathlib.Core.Bool.{Bool, true, false}
use mathlib.Core.List.{List, [], ◌∷◌}
use native.Mathlib.Omega.{arith}
use borrow.Author.Tests.{eqb-true, eq-eqb}
use lib.Dec.{eqb}
use lib.ListN.{length}
use Rattle.laws.specs.Pick.{pick}
use Rattle.hand.specs.Settings.{at}
use Rattle.hand.specs.Hand.{count_of, cap_of, plan_for, spare_ids}
use Rattle.hand.specs.Spares.{BothBelow, ahead}
use Rattle.hand.specs.declared.Three.{Three}
use Rattle.hand.specs.declared.Settings.{Settings}
use Rattle.hand.proofs.Answer.{hand_is}
use Rattle.hand.proofs.Served.{low_at}
use Rattle.hand.proofs.Steps.{count_append}
use Rattle.hand.proofs.Alternate.{ahead_one, alternate, below_before}
use Rattle.sender.specs.State.{put_queue, waiting_of}
use Rattle.sender.specs.Load.{load_number, load_for, loaded}
use Rattle.sender.specs.Frame.{hand_of, framed, next_from, frame_number, frame_for}
use Rattle.demand.specs.Run.{Act, load, frame, Desk, number_of, after, run, answer}
use Rattle.demand.proofs.Counted.{frame_allowed, reported, steps_reported, spares_reported}
use Rattle.fair.specs.Spares.{waits_before, steps_by, spares_by, spares_in, sum_over, got_by, beyond_by}
use Rattle.fair.specs.Fair.{EachFrame, Busy, Left, Met, Level, SparesAreFair, LeftIsBusy, StepsAreReported}

-- ---- a call
load_turn : (g : Settings) (id : ℕ) (unit : List ℕ) (x : Desk) → (after (load g id unit) x).state.turn ≡ x.state.turn
unfolding after load_for loaded put_queue
load_turn g id unit x = go (eqb (load_number g x.state id unit x.store) 0)
  where
    go : (b : Bool) → (pick b (loaded x.state id (length unit)) x.state).turn ≡ x.state.turn
    go true = refl
    go false = refl

load_spares : (g : Settings) (id : ℕ) (unit : List ℕ) (x : Desk) → spares_by (load g id unit) x ≡ []
unfolding spares_by steps_by
load_spares g id unit x = go (eqb (number_of (load g id unit) x) 0)
  where
    go : (b : Bool) → ◌≡◌ {A = List ℕ} (pick b [] []) []
    go true = refl
    go false = refl

module _ (i j : ℕ) (hi : i < 3) (hj : j < 3) where
  load_alike : (g : Settings) (id : ℕ) (unit : List ℕ) (x : Desk)
      → count_of i (spares_by (load g id unit) x) + ahead i j (after (load g id unit) x).state.turn ≡ count_of j (spares_by (load g id unit) x) + ahead i j x.state.turn
  unfolding count_of
  load_alike g id unit x = rw (load_spares g id unit x, load_turn g id unit x)

  frame_alike : (g : Settings) (out : List ℕ) (x : Desk)
      → (number_of (frame g out) x ≡ 0 → BothBelow g (waits_before (frame g out) x) x.state.turn i j)
      → count_of i (spares_by (frame g out) x) + ahead i j (after (frame g out) x).state.turn ≡ count_of j (spares_by (frame g out) x) + ahead i j x.state.turn
  unfolding spares_by steps_by number_of after frame_for framed next_from hand_of count_of
  frame_alike g out x k = go (eqb (frame_number g x.state x.store out) 0) refl
    where
      ids : List ℕ
      ids = spare_ids g (waiting_of g.p x.state) x.state.turn

      go : (b : Bool) → eqb (frame_number g x.state x.store out) 0 ≡ b
          → count_of i (pick b ids []) + ahead i j (after (frame g out) x).state.turn ≡ count_of j (pick b ids []) + ahead i j x.state.turn
      go true e =
          let w = waiting_of g.p x.state in
          let n : frame_number g x.state x.store out ≡ 0 = eqb-true _ _ e in
          let t = (hand_is g w x.state.turn (frame_allowed g out x n)).1 in
          simp e (rw t (alternate g w x.state.turn i j hi hj (k n)))
      go false e = simp e

  -- ---- a run
  run_alike : (acts : List Act) (x : Desk) → Busy i j acts x
      → count_of i (spares_in acts x) + ahead i j (run acts x).state.turn ≡ count_of j (spares_in acts x) + ahead i j x.state.turn
  unfolding spares_in run count_of
  run_alike [] x k = refl
  run_alike (load g id unit ∷ acts) x k =
      let a = load g id unit in
      let here = load_alike g id unit x in
      let rest = run_alike acts (after a x) k in
      omega (arith, here, rest, count_append i (spares_by a x) (spares_in acts (after a x)), count_append j (spares_by a x) (spares_in acts (after a x)))
  run_alike (frame g out ∷ acts) x k =
      let a = frame g out in
      let here = frame_alike g out x k.0 in
      let rest = run_alike acts (after a x) k.1 in
      omega (arith, here, rest, count_append i (spares_by a x) (spares_in acts (after a x)), count_append j (spares_by a x) (spares_in acts (after a x)))

-- ---- what a frame reports
pub reports : StepsAreReported
unfolding spares_by steps_by
reports g out x z =
    let e = eq-eqb (number_of (frame g out) x) 0 z in
    record {
      spares = simp e (spares_reported g out x z);
      packets = λ i h. simp e (ap (λ (t : Three). at t i) (reported g out x z).0 ∙ steps_reported g out x z i h);
    }

-- ---- sums of what is reported
pub load_none : (i : ℕ) (g : Settings) (id : ℕ) (unit : List ℕ) (x : Desk) → got_by i (load g id unit) x ≡ 0
unfolding answer
load_none i g id unit x = none (eqb i 0) (eqb i 1)
  where
    none : (p q : Bool) → ◌≡◌ {A = ℕ} (pick p 0 (pick q 0 0)) 0
    none true q = refl
    none false true = refl
    none false false = refl

refused_none : (i : ℕ) (a : Act) (x : Desk) → eqb (number_of a x) 0 ≡ false → count_of i (spares_by a x) ≡ 0
unfolding spares_by count_of
refused_none i a x e = simp e

less : (p m c : ℕ) → p ≡ m + c → p - m ≡ c
less p m c e = omega arith

beyond_by_law : (i : ℕ) → i < 3 → (a : Act) (x : Desk) → pick (eqb (number_of a x) 0) (beyond_by i a x) 0 ≡ count_of i (spares_by a x)
unfolding count_of
beyond_by_law i h (load g id unit) x = rw (load_spares g id unit x) (go (eqb (number_of (load g id unit) x) 0))
  where
    go : (b : Bool) → pick b (beyond_by i (load g id unit) x) 0 ≡ 0
    go true = omega (arith, load_none i g id unit x)
    go false = refl
beyond_by_law i h (frame g out) x = go (eqb (number_of (frame g out) x) 0) refl
  where
    go : (b : Bool) → eqb (number_of (frame g out) x) 0 ≡ b → pick b (beyond_by i (frame g out) x) 0 ≡ count_of i (spares_by (frame g out) x)
    go true e = less _ _ _ ((reports g out x (eqb-true _ _ e)).packets i h)
    go false e = sym (refused_none i (frame g out) x e)

beyond_in : (i : ℕ) → i < 3 → (acts : List Act) (x : Desk) → sum_over (beyond_by i) acts x ≡ count_of i (spares_in acts x)
unfolding sum_over spares_in count_of
beyond_in i h [] x = refl
beyond_in i h (a ∷ acts) x =
    omega (arith, beyond_by_law i h a x, beyond_in i h acts (after a x), count_append i (spares_by a x) (spares_in acts (after a x)))

-- ---- all packets, where the shares are equal and met
met : (p q s t w v c d : ℕ) → p ≡ min s w + c → q ≡ min t v + d → s ≡ t → s ≤ w → t ≤ v → p + d ≡ q + c
met p q s t w v c d a b e f g = omega arith

module _ (i j : ℕ) (hi : i < 3) (hj : j < 3) where
  load_level : (g : Settings) (id : ℕ) (unit : List ℕ) (x : Desk)
      → pick (eqb (number_of (load g id unit) x) 0) (got_by i (load g id unit) x) 0 + count_of j (spares_by (load g id unit) x)
      ≡ pick (eqb (number_of (load g id unit) x) 0) (got_by j (load g id unit) x) 0 + count_of i (spares_by (load g id unit) x)
  unfolding count_of
  load_level g id unit x = rw (load_spares g id unit x, load_none i g id unit x, load_none j g id unit x)

  frame_level : (g : Settings) (out : List ℕ) (x : Desk)
      → (number_of (frame g out) x ≡ 0 → (at g.share i ≡ at g.share j) × Met i g out x × Met j g out x)
      → pick (eqb (number_of (frame g out) x) 0) (got_by i (frame g out) x) 0 + count_of j (spares_by (frame g out) x)
      ≡ pick (eqb (number_of (frame g out) x) 0) (got_by j (frame g out) x) 0 + count_of i (spares_by (frame g out) x)
  frame_level g out x k = go (eqb (number_of (frame g out) x) 0) refl
    where
      a : Act
      a = frame g out

      go : (b : Bool) → eqb (number_of a x) 0 ≡ b → pick b (got_by i a x) 0 + count_of j (spares_by a x) ≡ pick b (got_by j a x) 0 + count_of i (spares_by a x)
      go true e =
          let z : number_of a x ≡ 0 = eqb-true _ _ e in
          let r = reports g out x z in
          let l = k z in
          met _ _ _ _ _ _ _ _ (r.packets i hi) (r.packets j hj) l.0 l.1 l.2
      go false e = omega (arith, refused_none i a x e, refused_none j a x e)

  level_in : (acts : List Act) (x : Desk) → Level i j acts x
      → sum_over (got_by i) acts x + count_of j (spares_in acts x) ≡ sum_over (got_by j) acts x + count_of i (spares_in acts x)
  unfolding sum_over spares_in count_of
  level_in [] x k = refl
  level_in (load g id unit ∷ acts) x k =
      let a = load g id unit in
      let here = load_level g id unit x in
      let rest = level_in acts (after a x) k in
      omega (arith, here, rest, count_append i (spares_by a x) (spares_in acts (after a x)), count_append j (spares_by a x) (spares_in acts (after a x)))
  level_in (frame g out ∷ acts) x k =
      let a = frame g out in
      let here = frame_level g out x k.0 in
      let rest = level_in acts (after a x) k.1 in
      omega (arith, here, rest, count_append i (spares_by a x) (spares_in acts (after a x)), count_append j (spares_by a x) (spares_in acts (after a x)))

-- ---- the statement
pub fair_spares : SparesAreFair
fair_spares i j hi hj acts x k =
    let e = run_alike i j hi hj acts x k in
    let a = ahead_one i j x.state.turn in
    let b = ahead_one i j (run acts x).state.turn in
    let ri = beyond_in i hi acts x in
    let rj = beyond_in j hj acts x in
    record {
      spares = (omega (arith, e, a, b), omega (arith, e, a, b));
      reported = (omega (arith, e, a, b, ri, rj), omega (arith, e, a, b, ri, rj));
      packets = λ l. let t = level_in i j hi hj acts x l in (omega (arith, e, a, b, t), omega (arith, e, a, b, t));
      turn = e;
    }

-- ---- where packets are left over
weaker : (P Q : Settings → List ℕ → Desk → Type 0) → ((g : Settings) (out : List ℕ) (x : Desk) → number_of (frame g out) x ≡ 0 → P g out x → Q g out x)
    → (acts : List Act) (x : Desk) → EachFrame P acts x → EachFrame Q acts x
weaker P Q f [] x k = tt
weaker P Q f (load g id unit ∷ acts) x k = weaker P Q f acts (after (load g id unit) x) k
weaker P Q f (frame g out ∷ acts) x k = (λ z. f g out x z (k.0 z), weaker P Q f acts (after (frame g out) x) k.1)

at_end : (i : ℕ) (g : Settings) (out : List ℕ) (x : Desk) → number_of (frame g out) x ≡ 0 → Left i g out x
    → at (plan_for g (waits_before (frame g out) x) x.state.turn).packets i < at (cap_of g (waits_before (frame g out) x)) i
unfolding hand_of
at_end i g out x z h =
    let w = waits_before (frame g out) x in
    let a = ap (λ (t : Three). at t i) (reported g out x z).0 in
    let b = ap (λ (t : Three). at t i) (hand_is g w x.state.turn (frame_allowed g out x z)).0 in
    let c : at (cap_of g w) i ≡ min (at w i) (at g.ceiling i) = low_at w g.ceiling i in
    omega (arith, h, a, b, c)

pub left_below : (i j : ℕ) (g : Settings) (out : List ℕ) (x : Desk) → number_of (frame g out) x ≡ 0 → Left i g out x × Left j g out x
    → BothBelow g (waits_before (frame g out) x) x.state.turn i j
left_below i j g out x z k m l t = (below_before g _ _ i (at_end i g out x z k.0) m l, below_before g _ _ j (at_end j g out x z k.1) m l)

pub left_busy : LeftIsBusy
left_busy i j = weaker _ _ (left_below i j)
