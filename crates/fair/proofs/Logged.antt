-- Fair spares in the log of a run from the fresh state in which p stands. Assumes nothing.
use Prim.Native.Nat.{ℕ, ◌+◌, ◌-◌, ◌<◌, min}
use mathlib.Core.Path.{◌≡◌, refl, sym, ap, ap₂, ◌∙◌, subst}
use mathlib.Core.Bool.{Bool, true, false}
use mathlib.Core.List.{List, [], ◌∷◌, ◌++◌}
use native.Mathlib.Omega.{arith}
use borrow.Author.Tests.{eqb-true}
use lib.Dec.{eqb}
use lib.ListN.{length}
use Rattle.laws.specs.Pick.{pick}
use Rattle.hand.specs.Settings.{at}
use Rattle.hand.specs.Spares.{BothBelow}
use Rattle.hand.specs.declared.Three.{Three}
use Rattle.hand.specs.declared.Settings.{Settings}
use Rattle.sender.specs.State.{waiting_of}
use Rattle.demand.specs.Run.{Act, load, frame, Desk, fresh_desk, settings_of, number_of, after, run, Answer, answer, answers}
use Rattle.demand.specs.Log.{Event, events, log, Stands, waiting_at}
use Rattle.demand.specs.Reported.{waiting_three, turn_at}
use Rattle.demand.proofs.Seen.{event_of, number_is, log_append, run_append}
use Rattle.demand.proofs.Mirror.{Mirror, mirror, waiting_three_law}
use Rattle.demand.proofs.Turn.{waits_seen, turn_seen}
use Rattle.demand.proofs.Parts.{parted, stands_front, stands_back}
use Rattle.fair.specs.Spares.{waits_before, sum_over, got_by, beyond_by}
use Rattle.fair.specs.Fair.{EachFrame, Busy, Left, Met, Level, Close}
use Rattle.fair.specs.Logged.{Throughout, of_written, all_written, reported_of, beyond_of, BusyIn, StillBelow, StillIn, ShareWaits, LevelIn, FairIn, FairLog}
use Rattle.fair.proofs.Fair.{load_none, fair_spares, left_below}

module _ (p : ℕ) (store : List ℕ) (hs : length store ≡ 12288) where
  abbrev X : Desk
  X = fresh_desk store

  -- the calls es from fresh have left y
  record Sees (es : List Event) (y : Desk) : Type 0 where
    acts : List Act
    is_log : log acts X ≡ es
    is_run : run acts X ≡ y
    stands : Stands p es

  stands_more : (es fs : List Event) → Stands p es → Stands p fs → Stands p (es ++ fs)
  stands_more [] fs u v = v
  stands_more (e ∷ es) fs u v = (u.0, stands_more es fs u.1 v)

  sees_next : (es : List Event) (y : Desk) → Sees es y → (a : Act) → ((answer a y).number ≡ 0 → (settings_of a).p ≡ p) → Sees (es ++ (event_of a y ∷ [])) (after a y)
  unfolding events answers run
  sees_next es y k a s =
      let same : log (k.acts ++ (a ∷ [])) X ≡ es ++ (event_of a y ∷ []) =
      log_append k.acts (a ∷ []) X ∙ ap₂ (λ (ds : List Event) (d : Desk). ds ++ (event_of a d ∷ [])) k.is_log k.is_run in
      record {
        acts = k.acts ++ (a ∷ []);
        is_log = same;
        is_run = run_append k.acts (a ∷ []) X ∙ ap (after a) k.is_run;
        stands = stands_more es (event_of a y ∷ []) k.stands (s, tt);
      }

  sees_mirror : (es : List Event) (y : Desk) → Sees es y → Mirror p es y
  sees_mirror es y k =
      subst (λ (ds : List Event). Mirror p ds y) k.is_log
      (subst (Mirror p (log k.acts X)) k.is_run (mirror p k.acts store hs (subst (Stands p) (sym k.is_log) k.stands)))

  sees_turn : (es : List Event) (y : Desk) → Sees es y → turn_at p es ≡ y.state.turn
  sees_turn es y k =
      ap (turn_at p) (sym k.is_log) ∙ turn_seen p k.acts store hs (subst (Stands p) (sym k.is_log) k.stands) ∙ ap (λ (d : Desk). d.state.turn) k.is_run

  -- ---- along a stretch
  module _ (P : Settings → Answer → List Event → Type 0) (Q : Settings → List ℕ → Desk → Type 0)
      (back : (g : Settings) (out : List ℕ) (es : List Event) (y : Desk) → Sees es y → g.p ≡ p → P g (answer (frame g out) y) es → Q g out y) where
    frames_back : (acts : List Act) (es : List Event) (y : Desk) → Sees es y → Stands p (log acts y) → Throughout P es (log acts y) → EachFrame Q acts y
    unfolding events answers
    frames_back [] es y k st t = tt
    frames_back (load g id unit ∷ acts) es y k st t =
        let a = load g id unit in
        frames_back acts (es ++ (event_of a y ∷ [])) (after a y) (sees_next es y k a st.0) st.1 t.1
    frames_back (frame g out ∷ acts) es y k st t =
        let a = frame g out in
        let n = number_is a y in (
          λ z. back g out es y k (st.0 (n ∙ z)) (t.0 (n ∙ z)),
          frames_back acts (es ++ (event_of a y ∷ [])) (after a y) (sees_next es y k a st.0) st.1 t.1,
        )

  module _ (P Q : Settings → Answer → List Event → Type 0)
      (so : (g : Settings) (out : List ℕ) (es : List Event) (y : Desk) → Sees es y → g.p ≡ p → number_of (frame g out) y ≡ 0 → P g (answer (frame g out) y) es
      → Q g (answer (frame g out) y) es) where
    throughout_so : (acts : List Act) (es : List Event) (y : Desk) → Sees es y → Stands p (log acts y) → Throughout P es (log acts y) → Throughout Q es (log acts y)
    unfolding events answers
    throughout_so [] es y k st t = tt
    throughout_so (load g id unit ∷ acts) es y k st t =
        let a = load g id unit in
        (tt, throughout_so acts (es ++ (event_of a y ∷ [])) (after a y) (sees_next es y k a st.0) st.1 t.1)
    throughout_so (frame g out ∷ acts) es y k st t =
        let a = frame g out in (
          λ z. so g out es y k (st.0 z) (sym (number_is a y) ∙ z) (t.0 z),
          throughout_so acts (es ++ (event_of a y ∷ [])) (after a y) (sees_next es y k a st.0) st.1 t.1,
        )

  module _ (f : Settings → Answer → List Event → ℕ) (h : Act → Desk → ℕ) (none : (g : Settings) (id : ℕ) (unit : List ℕ) (y : Desk) → h (load g id unit) y ≡ 0)
      (same : (g : Settings) (out : List ℕ) (es : List Event) (y : Desk) → Sees es y → g.p ≡ p → f g (answer (frame g out) y) es ≡ h (frame g out) y) where
    one_same : (a : Act) (es : List Event) (y : Desk) → Sees es y → ((answer a y).number ≡ 0 → (settings_of a).p ≡ p)
        → of_written f es a (answer a y) ≡ pick (eqb (number_of a y) 0) (h a y) 0
    unfolding of_written
    one_same (load g id unit) es y k s = go (eqb (number_of (load g id unit) y) 0)
      where
        go : (b : Bool) → 0 ≡ pick b (h (load g id unit) y) 0
        go true = sym (none g id unit y)
        go false = refl
    one_same (frame g out) es y k s = go (eqb (answer a y).number 0) refl ∙ ap (λ (n : ℕ). pick (eqb n 0) (h a y) 0) (number_is a y)
      where
        a : Act
        a = frame g out

        go : (b : Bool) → eqb (answer a y).number 0 ≡ b → pick b (f g (answer a y) es) 0 ≡ pick b (h a y) 0
        go true e = same g out es y k (s (eqb-true _ _ e))
        go false e = refl

    sums_same : (acts : List Act) (es : List Event) (y : Desk) → Sees es y → Stands p (log acts y) → all_written f es (log acts y) ≡ sum_over h acts y
    unfolding events answers all_written sum_over
    sums_same [] es y k st = refl
    sums_same (a ∷ acts) es y k st =
        ap₂ (λ (m n : ℕ). m + n) (one_same a es y k st.0) (sums_same acts (es ++ (event_of a y ∷ [])) (after a y) (sees_next es y k a st.0) st.1)

  -- ---- what the log says of a desk
  module _ (g : Settings) (out : List ℕ) (es : List Event) (y : Desk) (k : Sees es y) (e : g.p ≡ p) where
    three_same : waits_before (frame g out) y ≡ waiting_three p es
    three_same = ap (λ (q : ℕ). waiting_of q y.state) e ∙ waits_seen p es y (sees_mirror es y k)

    waits_same : (i : ℕ) → i < 3 → at (waits_before (frame g out) y) i ≡ waiting_at p i es
    waits_same i h = ap (λ (q : ℕ). at (waiting_of q y.state) i) e ∙ waiting_three_law p es y (sees_mirror es y k) i h

    both_same : (i j : ℕ) → BothBelow g (waits_before (frame g out) y) y.state.turn i j ≡ BothBelow g (waiting_three p es) (turn_at p es) i j
    both_same i j = ap₂ (λ (w : Three) (t : ℕ). BothBelow g w t i j) three_same (sym (sees_turn es y k))

    below_back : (i : ℕ) → i < 3 → StillBelow p i g (answer (frame g out) y) es → Left i g out y
    below_back i h b = omega (arith, b, waits_same i h)

    waits_back : (i : ℕ) → i < 3 → ShareWaits p i g (answer (frame g out) y) es → Met i g out y
    waits_back i h b = omega (arith, b, waits_same i h)

    beyond_same : (i : ℕ) → i < 3 → beyond_of p i g (answer (frame g out) y) es ≡ beyond_by i (frame g out) y
    beyond_same i h = ap (λ (n : ℕ). got_by i (frame g out) y - min (at g.share i) n) (sym (waits_same i h))

  beyond_none : (i : ℕ) (g : Settings) (id : ℕ) (unit : List ℕ) (y : Desk) → beyond_by i (load g id unit) y ≡ 0
  beyond_none i g id unit y = omega (arith, load_none i g id unit y)

  -- ---- a stretch
  module _ (i j : ℕ) (hi : i < 3) (hj : j < 3) (acts : List Act) (es : List Event) (y : Desk) (k : Sees es y) (st : Stands p (log acts y)) where
    beyond_are : (q : ℕ) → q < 3 → all_written (beyond_of p q) es (log acts y) ≡ sum_over (beyond_by q) acts y
    beyond_are q h = sums_same (beyond_of p q) (beyond_by q) (beyond_none q) (λ g out es y k e. beyond_same g out es y k e q h) acts es y k st

    got_are : (q : ℕ) → all_written (reported_of q) es (log acts y) ≡ sum_over (got_by q) acts y
    got_are q = sums_same (reported_of q) (got_by q) (load_none q) (λ g out es y k e. refl) acts es y k st

    close_same : (m n m' n' : ℕ) → m ≡ m' → n ≡ n' → Close m' n' → Close m n
    close_same m n m' n' e f c = (omega (arith, e, f, c.0), omega (arith, e, f, c.1))

    busy_are : BusyIn p i j es (log acts y) → Busy i j acts y
    busy_are t = frames_back _ _ (λ g out ds d s e b. subst (λ (T : Type 0). T) (sym (both_same g out ds d s e i j)) b) acts es y k st t

    still_are : StillIn p i j es (log acts y) → BusyIn p i j es (log acts y)
    still_are t =
        throughout_so _ _
        (λ g out ds d s e z b.
        subst (λ (T : Type 0). T) (both_same g out ds d s e i j) (left_below i j g out d z (below_back g out ds d s e i hi b.0, below_back g out ds d s e j hj b.1)))
        acts es y k st t

    level_are : LevelIn p i j es (log acts y) → Level i j acts y
    level_are t =
        frames_back _ _ (λ g out ds d s e b. (b.0, waits_back g out ds d s e i hi b.1, waits_back g out ds d s e j hj b.2)) acts es y k st t

    stretch_fair : FairIn p i j es (log acts y)
    stretch_fair =
        record {
          spares = λ t. close_same _ _ _ _ (beyond_are i hi) (beyond_are j hj) (fair_spares i j hi hj acts y (busy_are t)).reported;
          packets = λ t l. close_same _ _ _ _ (got_are i) (got_are j) ((fair_spares i j hi hj acts y (busy_are t)).packets (level_are l));
          still = still_are;
        }

-- ---- the statement
pub fair_log : (p : ℕ) (acts : List Act) (store : List ℕ) → length store ≡ 12288 → Stands p (log acts (fresh_desk store)) → FairLog p (log acts (fresh_desk store))
fair_log p acts store hs st i j hi hj before stretch behind q =
    let x = fresh_desk store in
    let r = parted acts x before (stretch ++ behind) q in
    let y = run r.first x in
    let s = parted r.second y stretch behind (sym r.back) in
    let sq = subst (Stands p) q st in
    let sb = stands_front p stretch behind (stands_back p before (stretch ++ behind) sq) in
    let k : Sees p store hs before y = record { acts = r.first; is_log = sym r.front; is_run = refl; stands = stands_front p before (stretch ++ behind) sq } in
    subst (FairIn p i j before) (sym s.front) (stretch_fair p store hs i j hi hj s.first before y k (subst (Stands p) s.front sb))

-- of a sender that answers as 01's does, from its own fresh state, whatever it keeps: its calls, and the answers bs that they got
pub fair_carried : (p : ℕ) (acts : List Act) (store : List ℕ) → length store ≡ 12288 → (bs : List Answer) → answers acts (fresh_desk store) ≡ bs
    → Stands p (events acts bs) → FairLog p (events acts bs)
fair_carried p acts store hs bs e st =
    subst (λ (cs : List Answer). FairLog p (events acts cs)) e
    (fair_log p acts store hs (subst (λ (cs : List Answer). Stands p (events acts cs)) (sym e) st))
