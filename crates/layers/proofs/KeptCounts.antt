-- Runs of the calls with counts in 01's layout: the counts stay right, and the answers are those of a run of 01's calls. Assumes nothing.
use Prim.Native.Nat.{ℕ, zero, suc, ◌<◌}
use mathlib.Core.Path.{◌≡◌, refl, sym, ap, ap₂, ◌∙◌, subst}
use mathlib.Core.List.{List, [], ◌∷◌, ◌++◌}
use mathlib.Core.Bool.{Bool, true, false}
use native.Mathlib.Omega.{arith}
use borrow.Author.Tests.{eqb-true, eqb-false}
use lib.Dec.{eqb}
use lib.ListN.{length}
use Rattle.laws.specs.Pick.{pick}
use Rattle.queue.specs.Queue.{add_up, waits, waiting}
use Rattle.sender.specs.State.{fresh}
use Rattle.sender.specs.Kept.{stored_of, fresh_kept}
use Rattle.demand.specs.Run.{Act, settings_of, Steady, Desk, fresh_desk, run, Answer, answers}
use Rattle.demand.specs.Log.{Event, events, Stands, waiting_at}
use Rattle.demand.specs.Within.{waiting_in}
use Rattle.demand.proofs.Mirror.{mirror, waiting_seen}
use Rattle.layers.specs.KeptRun.{KeptDesk, fresh_kept_desk, plain, after_kept, run_kept, answer_kept, answers_kept, log_kept}
use Rattle.layers.proofs.Without.{events_with, waiting_with_law}
use Rattle.layers.proofs.Stays.{RightKept, StaysKept, accepted_right, refused_same, stays}

-- a fresh state is right for every p
pub fresh_right : (p : ℕ) → RightKept p fresh_kept
unfolding fresh_kept fresh waiting waits add_up
fresh_right p zero h = refl
fresh_right p (suc zero) h = refl
fresh_right p (suc (suc zero)) h = refl
fresh_right p (suc (suc (suc id))) h = absurd (omega arith)

-- a call keeps the counts right
after_right : (p : ℕ) (a : Act) (x : KeptDesk) → ((answer_kept a x).number ≡ 0 → (settings_of a).p ≡ p) → RightKept p x.state → RightKept p (after_kept a x).state
after_right p a x e r = go (eqb (answer_kept a x).number 0) refl
  where
    go : (b : Bool) → eqb (answer_kept a x).number 0 ≡ b → RightKept p (after_kept a x).state
    go true h = let z = eqb-true _ 0 h in subst (λ (q : ℕ). RightKept q (after_kept a x).state) (e z) (accepted_right a x z)
    go false h = subst (λ (y : KeptDesk). RightKept p y.state) (sym (refused_same a x (eqb-false _ 0 h))) r

pub run_right : (p : ℕ) (acts : List Act) (x : KeptDesk) → Stands p (log_kept acts x) → RightKept p x.state → RightKept p (run_kept acts x).state
unfolding run_kept answers_kept events
run_right p [] x st r = r
run_right p (a ∷ acts) x st r = run_right p acts (after_kept a x) st.1 (after_right p a x st.0 r)

-- ---- the run of 01's calls beside it
module _ (p : ℕ) where
  here : (a : Act) (x : KeptDesk) → (settings_of a).p ≡ p → RightKept p x.state → StaysKept a x
  here a x e r = stays a x (subst (λ (q : ℕ). RightKept q x.state) (sym e) r)

  pub same_answers : (acts : List Act) (x : KeptDesk) → Steady p acts → RightKept p x.state → answers_kept acts x ≡ answers acts (plain x)
  unfolding answers_kept answers
  same_answers [] x st r = refl
  same_answers (a ∷ acts) x st r =
      let k = here a x st.0 r in
      ap₂ (λ (b : Answer) (bs : List Answer). b ∷ bs) k.answer
      (same_answers acts (after_kept a x) st.1 (after_right p a x (λ z. st.0) r) ∙ ap (answers acts) k.desk)

  pub same_run : (acts : List Act) (x : KeptDesk) → Steady p acts → RightKept p x.state → plain (run_kept acts x) ≡ run acts (plain x)
  unfolding run_kept run
  same_run [] x st r = refl
  same_run (a ∷ acts) x st r = same_run acts (after_kept a x) st.1 (after_right p a x (λ z. st.0) r) ∙ ap (run acts) (here a x st.0 r).desk

  -- from fresh
  module _ (acts : List Act) (store : List ℕ) (st : Steady p acts) where
    pub fresh_answers : answers_kept acts (fresh_kept_desk store) ≡ answers acts (fresh_desk store)
    unfolding fresh_kept
    fresh_answers = same_answers acts (fresh_kept_desk store) st (fresh_right p)

    pub fresh_run : plain (run_kept acts (fresh_kept_desk store)) ≡ run acts (fresh_desk store)
    unfolding fresh_kept
    fresh_run = same_run acts (fresh_kept_desk store) st (fresh_right p)

-- where p is the same in every call, it is that of every call that was not refused
pub steady_stands : (p : ℕ) (acts : List Act) (bs : List Answer) → Steady p acts → Stands p (events acts bs)
unfolding events
steady_stands p [] bs st = tt
steady_stands p (a ∷ acts) [] st = tt
steady_stands p (a ∷ acts) (b ∷ bs) st = (λ z. st.0, steady_stands p acts bs st.1)

-- ---- without the calls that have another p: where p stands these were refused, and the run is the same
unfoldable pub acts_with : ℕ → List Act → List Act
acts_with p [] = []
acts_with p (a ∷ acts) = pick (eqb (settings_of a).p p) (a ∷ []) [] ++ acts_with p acts

pub steady_with : (p : ℕ) (acts : List Act) → Steady p (acts_with p acts)
unfolding acts_with
steady_with p [] = tt
steady_with p (a ∷ acts) = go (eqb (settings_of a).p p) refl (steady_with p acts)
  where
    go : (b : Bool) → eqb (settings_of a).p p ≡ b → Steady p (acts_with p acts) → Steady p (pick b (a ∷ []) [] ++ acts_with p acts)
    go true e k = (eqb-true _ _ e, k)
    go false e k = k

-- the calls acts from x have the log es and leave y
abbrev pub Gives : List Act → KeptDesk → List Event → KeptDesk → Type 0
Gives acts x es y = (log_kept acts x ≡ es) × (run_kept acts x ≡ y)

pub run_with : (p : ℕ) (acts : List Act) (x : KeptDesk) → Stands p (log_kept acts x)
    → Gives (acts_with p acts) x (events_with p (log_kept acts x)) (run_kept acts x)
unfolding events_with acts_with answers_kept events run_kept
run_with p [] x st = (refl, refl)
run_with p (a ∷ acts) x st = go (eqb (settings_of a).p p) refl (run_with p acts (after_kept a x) st.1)
  where
    go : (b : Bool) → eqb (settings_of a).p p ≡ b → Gives (acts_with p acts) (after_kept a x) (events_with p (log_kept acts (after_kept a x))) (run_kept acts (after_kept a x))
        → Gives (pick b (a ∷ []) [] ++ acts_with p acts) x
        (pick b (record { act = a; answer = answer_kept a x } ∷ []) [] ++ events_with p (log_kept acts (after_kept a x))) (run_kept acts (after_kept a x))
    go true f k = (ap (λ (es : List Event). record { act = a; answer = answer_kept a x } ∷ es) k.0, k.1)
    go false f k =
        subst (λ (y : KeptDesk). Gives (acts_with p acts) y (events_with p (log_kept acts (after_kept a x))) (run_kept acts (after_kept a x)))
        (refused_same a x (λ z. eqb-false _ _ f (st.0 z))) k

-- ---- what is stored is what one counts who sees only the calls and their answers
steady_display : (p : ℕ) (acts : List Act) (store : List ℕ) → length store ≡ 12288 → Steady p acts → (id : ℕ) → id < 3
    → stored_of (run_kept acts (fresh_kept_desk store)).state id ≡ waiting_at p id (log_kept acts (fresh_kept_desk store))
unfolding waiting waiting_in
steady_display p acts store hs st id h =
    let x = fresh_kept_desk store in
    let m = mirror p acts store hs (steady_stands p acts (answers acts (fresh_desk store)) st) in
    run_right p acts x (steady_stands p acts (answers_kept acts x) st) (fresh_right p) id h
    ∙ ap (λ (y : Desk). waiting_in p id y) (fresh_run p acts store st)
    ∙ waiting_seen p _ _ m id h
    ∙ ap (λ (bs : List Answer). waiting_at p id (events acts bs)) (sym (fresh_answers p acts store st))

pub kept_display : (p : ℕ) (acts : List Act) (store : List ℕ) → length store ≡ 12288 → Stands p (log_kept acts (fresh_kept_desk store)) → (id : ℕ) → id < 3
    → stored_of (run_kept acts (fresh_kept_desk store)).state id ≡ waiting_at p id (log_kept acts (fresh_kept_desk store))
kept_display p acts store hs st id h =
    let x = fresh_kept_desk store in
    let k = run_with p acts x st in
    ap (λ (y : KeptDesk). stored_of y.state id) (sym k.1)
    ∙ steady_display p (acts_with p acts) store hs (steady_with p acts) id h
    ∙ ap (waiting_at p id) k.0
    ∙ waiting_with_law p (log_kept acts x) st id
