-- The turn of a run from fresh in which p stands, as calls and answers show it. Assumes nothing.
use Prim.Native.Nat.{ℕ}
use mathlib.Core.Path.{◌≡◌, refl, sym, ap, ap₂, ◌∙◌, subst}
use mathlib.Core.List.{List, [], ◌∷◌, ◌++◌, append_assoc}
use mathlib.Core.Bool.{Bool, true, false}
use borrow.Author.Tests.{eqb-true}
use lib.Dec.{eqb, lit<}
use lib.ListN.{length}
use Rattle.laws.specs.Pick.{pick}
use Rattle.hand.specs.Hand.{no_three, hand_for}
use Rattle.hand.specs.declared.Three.{Three}
use Rattle.hand.specs.declared.Settings.{Settings}
use Rattle.sender.specs.State.{fresh, put_queue, waiting_of}
use Rattle.sender.specs.Load.{load_number, load_for}
use Rattle.sender.specs.Load as loads
use Rattle.sender.specs.Frame.{hand_of, next_from, framed, frame_number, frame_for}
use Rattle.demand.specs.Run.{Act, load, frame, Desk, fresh_desk, settings_of, number_of, after, run, answer, answers}
use Rattle.demand.specs.Log.{Event, events, log, Stands}
use Rattle.demand.specs.Reported.{waiting_three, turn_by, turn_from, turn_at}
use Rattle.demand.proofs.Seen.{event_of, number_is, log_append, run_append}
use Rattle.demand.proofs.Mirror.{Mirror, mirror, waiting_three_law}

pub three_is : (t : Three) (a b c : ℕ) → t.a ≡ a → t.b ≡ b → t.c ≡ c → t ≡ record { a = a; b = b; c = c }
three_is t a b c x y z =
    let F : ℕ → ℕ → ℕ → Three = λ (i j k : ℕ). record { a = i; b = j; c = k } in
    ap (λ (i : ℕ). F i t.b t.c) x ∙ ap (λ (j : ℕ). F a j t.c) y ∙ ap (F a b) z

pub waits_seen : (p : ℕ) (es : List Event) (y : Desk) → Mirror p es y → waiting_of p y.state ≡ waiting_three p es
waits_seen p es y m =
    three_is (waiting_of p y.state) _ _ _ (waiting_three_law p es y m 0 (lit< tt)) (waiting_three_law p es y m 1 (lit< tt)) (waiting_three_law p es y m 2 (lit< tt))

-- ---- one call
module _ (p : ℕ) (es : List Event) (y : Desk) (m : Mirror p es y) where
  load_turn : (g : Settings) (id : ℕ) (unit : List ℕ) (b : Bool) → pick b y.state.turn y.state.turn ≡ (pick b (loads.loaded y.state id (length unit)) y.state).turn
  unfolding loads.loaded put_queue
  load_turn g id unit true = refl
  load_turn g id unit false = refl

  frame_turn : (g : Settings) (out : List ℕ) (b : Bool) → eqb (frame_number g y.state y.store out) 0 ≡ b → (b ≡ true → g.p ≡ p)
      → pick b (hand_for g (waiting_three p es) y.state.turn).turn y.state.turn
      ≡ (pick b (framed g y.state) (record { number = frame_number g y.state y.store out; next = y.state; packets = no_three; spares = 0; filler = 0 })).next.turn
  unfolding framed next_from hand_of
  frame_turn g out true e s =
      ap (λ (w : Three). (hand_for g w y.state.turn).turn) (sym (ap (λ (q : ℕ). waiting_of q y.state) (s refl) ∙ waits_seen p es y m))
  frame_turn g out false e s = refl

  step_turn : (a : Act) → (number_of a y ≡ 0 → (settings_of a).p ≡ p)
      → pick (eqb (number_of a y) 0) (turn_by p es y.state.turn a) y.state.turn ≡ (after a y).state.turn
  unfolding number_of turn_by after load_for frame_for
  step_turn (load g id unit) s = load_turn g id unit (eqb (load_number g y.state id unit y.store) 0)
  step_turn (frame g out) s = frame_turn g out (eqb (frame_number g y.state y.store out) 0) refl (λ e. s (eqb-true _ _ e))

-- ---- a run
stands_in : (p : ℕ) (acts more : List Act) (x : Desk) → Stands p (log (acts ++ more) x) → Stands p (log acts x)
unfolding events answers
stands_in p [] more x st = tt
stands_in p (a ∷ acts) more x st = (st.0, stands_in p acts more (after a x) st.1)

stands_at : (p : ℕ) (acts : List Act) (a : Act) (more : List Act) (x : Desk) → Stands p (log (acts ++ (a ∷ more)) x)
    → (answer a (run acts x)).number ≡ 0 → (settings_of a).p ≡ p
unfolding events answers run
stands_at p [] a more x st = st.0
stands_at p (b ∷ acts) a more x st = stands_at p acts a more (after b x) st.1

module _ (p : ℕ) (store : List ℕ) (hs : length store ≡ 12288) where
  abbrev X : Desk
  X = fresh_desk store

  turn_run : (more acts : List Act) → Stands p (log (acts ++ more) X)
      → turn_from p (log acts X) (run acts X).state.turn (log more (run acts X)) ≡ (run more (run acts X)).state.turn
  unfolding turn_from run events answers
  turn_run [] acts st = refl
  turn_run (a ∷ more) acts st =
      let y = run acts X in
      let es = log acts X in
      let m = mirror p acts store hs (stands_in p acts (a ∷ more) X st) in
      let L : log (acts ++ (a ∷ [])) X ≡ es ++ (event_of a y ∷ []) = log_append acts (a ∷ []) X in
      let R : run (acts ++ (a ∷ [])) X ≡ after a y = run_append acts (a ∷ []) X in
      let T : pick (eqb (answer a y).number 0) (turn_by p es y.state.turn a) y.state.turn ≡ (after a y).state.turn =
      ap (λ (n : ℕ). pick (eqb n 0) (turn_by p es y.state.turn a) y.state.turn) (number_is a y)
      ∙ step_turn p es y m a (λ z. stands_at p acts a more X st (number_is a y ∙ z)) in
      let I = turn_run more (acts ++ (a ∷ [])) (subst (λ (l : List Act). Stands p (log l X)) (sym (append_assoc acts (a ∷ []) more)) st) in
      ap₂ (λ (fs : List Event) (t : ℕ). turn_from p fs t (log more (after a y))) (sym L) (T ∙ ap (λ (d : Desk). d.state.turn) (sym R))
      ∙ ap (λ (d : Desk). turn_from p (log (acts ++ (a ∷ [])) X) (run (acts ++ (a ∷ [])) X).state.turn (log more d)) (sym R)
      ∙ I
      ∙ ap (λ (d : Desk). (run more d).state.turn) R

pub turn_seen : (p : ℕ) (acts : List Act) (store : List ℕ) → length store ≡ 12288 → Stands p (log acts (fresh_desk store))
    → turn_at p (log acts (fresh_desk store)) ≡ (run acts (fresh_desk store)).state.turn
unfolding run events answers fresh
turn_seen p acts store hs st = turn_run p store hs acts [] st
