-- A run seen from outside beside the state: what its calls and answers show is what the state holds. Assumes nothing.
use Prim.Native.Nat.{ℕ, ◌+◌}
use mathlib.Core.Path.{◌≡◌, refl, sym, ap, ap₂, ◌∙◌}
use mathlib.Core.List.{List, [], ◌∷◌, ◌++◌, append_assoc}
use mathlib.Core.Bool.{Bool, true, false}
use native.Mathlib.Omega.{arith}
use borrow.Author.Tests.{eqb-true}
use lib.Dec.{eqb}
use lib.ListN.{length}
use Rattle.laws.specs.Pick.{pick}
use Rattle.hand.specs.Hand.{no_three}
use Rattle.queue.specs.Queue.{add_up, same}
use Rattle.queue.proofs.Sums.{add_up_append}
use Rattle.queue.specs.Send.{Change, enters, leaves, shares}
use Rattle.sender.specs.Load.{load_number, load_for, store_for}
use Rattle.sender.specs.Frame.{frame_number, frame_for, store_after}
use Rattle.sender.specs.Frame as sends
use Rattle.demand.specs.Run.{Act, load, frame, Desk, number_of, after, run, Steady, Answer, answer, answers}
use Rattle.demand.specs.Log.{Event, events, log, Stands, gather, unit_for, accepted_of, packets_of, sent_of, share_for, shares_of}
use Rattle.demand.specs.Within.{change_of, history, accepted_by, accepted_in, sent_by, sent_in}

abbrev pub event_of : Act → Desk → Event
event_of a x = record { act = a; answer = answer a x }

-- ---- the number of a call
pub number_is : (a : Act) (x : Desk) → (answer a x).number ≡ number_of a x
unfolding answer number_of load_for frame_for sends.framed
number_is (load g id unit) x = refl
number_is (frame g out) x = go (eqb (frame_number g x.state x.store out) 0) refl
  where
    go : (b : Bool) → eqb (frame_number g x.state x.store out) 0 ≡ b
        → (pick b (sends.framed g x.state) (record { number = frame_number g x.state x.store out; next = x.state; packets = no_three; spares = 0; filler = 0 })).number
        ≡ frame_number g x.state x.store out
    go true e = sym (eqb-true _ _ e)
    go false e = refl

-- ---- what is gathered of a run
pub gather_append : {A : Type 0} (f : Act → Answer → List A) (es fs : List Event) → gather f (es ++ fs) ≡ gather f es ++ gather f fs
unfolding gather
gather_append f [] fs = refl
gather_append {A} f (e ∷ es) fs =
    ap (λ (l : List A). pick (eqb e.answer.number 0) (f e.act e.answer) [] ++ l) (gather_append f es fs)
    ∙ sym (append_assoc (pick (eqb e.answer.number 0) (f e.act e.answer) []) (gather f es) (gather f fs))

accepted_one : (id : ℕ) (a : Act) (x : Desk) (b : Bool) → eqb (number_of a x) 0 ≡ b → pick b (unit_for id a (answer a x)) [] ≡ accepted_by id a x
unfolding unit_for accepted_by number_of
accepted_one id (load g j unit) x true e = rw e
accepted_one id (load g j unit) x false e = rw e
accepted_one id (frame g out) x true e = refl
accepted_one id (frame g out) x false e = refl

pub accepted_seen : (id : ℕ) (acts : List Act) (x : Desk) → accepted_of id (log acts x) ≡ accepted_in id acts x
unfolding gather events answers accepted_in
accepted_seen id [] x = refl
accepted_seen id (a ∷ acts) x =
    ap₂ (λ (u v : List (List ℕ)). u ++ v)
    (ap (λ (n : ℕ). pick (eqb n 0) (unit_for id a (answer a x)) []) (number_is a x) ∙ accepted_one id a x (eqb (number_of a x) 0) refl)
    (accepted_seen id acts (after a x))

sent_one : (a : Act) (x : Desk) → pick (eqb (number_of a x) 0) (packets_of a (answer a x)) [] ≡ sent_by a x
unfolding packets_of sent_by number_of answer
sent_one (load g j unit) x = go (eqb (load_number g x.state j unit x.store) 0)
  where
    go : (b : Bool) → ◌≡◌ {A = List (List ℕ)} (pick b [] []) []
    go true = refl
    go false = refl
sent_one (frame g out) x = refl

pub sent_seen : (acts : List Act) (x : Desk) → sent_of (log acts x) ≡ sent_in acts x
unfolding gather events answers sent_in
sent_seen [] x = refl
sent_seen (a ∷ acts) x =
    ap₂ (λ (u v : List (List ℕ)). u ++ v) (ap (λ (n : ℕ). pick (eqb n 0) (packets_of a (answer a x)) []) (number_is a x) ∙ sent_one a x) (sent_seen acts (after a x))

-- ---- shares
shares_append : (h h' : List Change) → shares (h ++ h') ≡ shares h + shares h'
unfolding shares
shares_append [] h' = omega arith
shares_append (enters x ∷ h) h' = shares_append h h'
shares_append (leaves t k ∷ h) h' = omega (arith, shares_append h h')

shares_one : (id : ℕ) (a : Act) (x : Desk) (b : Bool) → eqb (number_of a x) 0 ≡ b → add_up same (pick b (share_for id a (answer a x)) []) ≡ shares (change_of id a x)
unfolding share_for change_of number_of shares add_up
shares_one id (load g j unit) x true e = rw e (go (eqb id j))
  where
    go : (d : Bool) → 0 ≡ shares (pick d (enters (length unit) ∷ []) [])
    go true = refl
    go false = refl
shares_one id (load g j unit) x false e = rw e
shares_one id (frame g out) x true e = rw e
shares_one id (frame g out) x false e = rw e

pub shares_seen : (id : ℕ) (acts : List Act) (x : Desk) → add_up same (shares_of id (log acts x)) ≡ shares (history id acts x)
unfolding gather events answers history shares add_up
shares_seen id [] x = refl
shares_seen id (a ∷ acts) x =
    let y = after a x in
    let here = pick (eqb (answer a x).number 0) (share_for id a (answer a x)) [] in
    let e : add_up same here ≡ shares (change_of id a x) =
    ap (λ (n : ℕ). add_up same (pick (eqb n 0) (share_for id a (answer a x)) [])) (number_is a x) ∙ shares_one id a x (eqb (number_of a x) 0) refl in
    add_up_append same here (shares_of id (log acts y))
    ∙ ap₂ (λ (u v : ℕ). u + v) e (shares_seen id acts y)
    ∙ sym (shares_append (change_of id a x) (history id acts y))

-- ---- a run, then another
pub log_append : (acts more : List Act) (x : Desk) → log (acts ++ more) x ≡ log acts x ++ log more (run acts x)
unfolding events answers run
log_append [] more x = refl
log_append (a ∷ acts) more x = ap (λ (l : List Event). event_of a x ∷ l) (log_append acts more (after a x))

pub run_append : (acts more : List Act) (x : Desk) → run (acts ++ more) x ≡ run more (run acts x)
unfolding run
run_append [] more x = refl
run_append (a ∷ acts) more x = run_append acts more (after a x)

-- ---- refused calls left out: they change nothing
unfoldable pub taken : List Act → Desk → List Act
taken [] x = []
taken (a ∷ acts) x = pick (eqb (number_of a x) 0) (a ∷ []) [] ++ taken acts (after a x)

refused_same : (a : Act) (x : Desk) → eqb (number_of a x) 0 ≡ false → after a x ≡ x
unfolding after number_of load_for store_for frame_for store_after
refused_same (load g id unit) x e = simp e
refused_same (frame g out) x e = simp e

pub taken_run : (acts : List Act) (x : Desk) → run (taken acts x) x ≡ run acts x
unfolding taken run
taken_run [] x = refl
taken_run (a ∷ acts) x = go (eqb (number_of a x) 0) refl (taken_run acts (after a x))
  where
    go : (b : Bool) → eqb (number_of a x) 0 ≡ b → run (taken acts (after a x)) (after a x) ≡ run acts (after a x) → run (pick b (a ∷ []) [] ++ taken acts (after a x)) x ≡ run acts (after a x)
    go true e ih = ih
    go false e ih = ap (run (taken acts (after a x))) (sym (refused_same a x e)) ∙ ih

pub taken_gather : {A : Type 0} (f : Act → Answer → List A) (acts : List Act) (x : Desk) → gather f (log (taken acts x) x) ≡ gather f (log acts x)
unfolding taken gather events answers
taken_gather f [] x = refl
taken_gather {A} f (a ∷ acts) x = go (eqb (number_of a x) 0) refl (taken_gather f acts (after a x))
  where
    go : (b : Bool) → eqb (number_of a x) 0 ≡ b → gather f (log (taken acts (after a x)) (after a x)) ≡ gather f (log acts (after a x))
        → gather f (log (pick b (a ∷ []) [] ++ taken acts (after a x)) x) ≡ pick (eqb (answer a x).number 0) (f a (answer a x)) [] ++ gather f (log acts (after a x))
    go true e ih = ap (λ (l : List A). pick (eqb (answer a x).number 0) (f a (answer a x)) [] ++ l) ih
    go false e ih =
        ap (λ (y : Desk). gather f (log (taken acts (after a x)) y)) (sym (refused_same a x e))
        ∙ ih
        ∙ ap (λ (b : Bool). pick b (f a (answer a x)) [] ++ gather f (log acts (after a x))) (sym e)
        ∙ ap (λ (n : ℕ). pick (eqb n 0) (f a (answer a x)) [] ++ gather f (log acts (after a x))) (sym (number_is a x))

pub taken_steady : (p : ℕ) (acts : List Act) (x : Desk) → Stands p (log acts x) → Steady p (taken acts x)
unfolding taken events answers
taken_steady p [] x st = tt
taken_steady p (a ∷ acts) x st = go (eqb (number_of a x) 0) refl (taken_steady p acts (after a x) st.1)
  where
    go : (b : Bool) → eqb (number_of a x) 0 ≡ b → Steady p (taken acts (after a x)) → Steady p (pick b (a ∷ []) [] ++ taken acts (after a x))
    go true e ih = (st.0 (number_is a x ∙ eqb-true _ _ e), ih)
    go false e ih = ih
