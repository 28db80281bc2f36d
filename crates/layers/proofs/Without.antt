-- A log without the calls that have another p. Where p stands these were all refused, and what is gathered of the log, what waits and the turn do
-- not see them. Assumes nothing.
use Prim.Native.Nat.{ℕ}
use mathlib.Core.Path.{◌≡◌, refl, sym, ap, ap₂, ◌∙◌, subst}
use mathlib.Core.List.{List, [], ◌∷◌, ◌++◌, map, append-nil, append_assoc}
use mathlib.Core.Bool.{Bool, true, false}
use borrow.Author.Tests.{eq-eqb, ne_eqb, eqb-true, eqb-false}
use lib.Dec.{eqb}
use lib.ListN.{length}
use Rattle.laws.specs.Pick.{pick}
use Rattle.hand.specs.Hand.{hand_for}
use Rattle.hand.specs.declared.Three.{Three}
use Rattle.queue.specs.Queue.{waits}
use Rattle.row.specs.Content.{rests}
use Rattle.demand.specs.Bytes.{of_id}
use Rattle.demand.specs.Run.{Act, load, frame, settings_of, Answer}
use Rattle.demand.specs.Log.{Event, Stands, gather, unit_for, packets_of, left_of, waiting_at}
use Rattle.demand.specs.Reported.{waiting_three, turn_by, turn_from, turn_at}
use Rattle.demand.proofs.Parts.{stands_front}
use Rattle.demand.proofs.Turn.{three_is}

unfoldable pub events_with : ℕ → List Event → List Event
events_with p [] = []
events_with p (e ∷ es) = pick (eqb (settings_of e.act).p p) (e ∷ []) [] ++ events_with p es

-- ---- of a log in parts
module _ (p : ℕ) where
  pub with_append : (es fs : List Event) → events_with p (es ++ fs) ≡ events_with p es ++ events_with p fs
  unfolding events_with
  with_append [] fs = refl
  with_append (e ∷ es) fs =
      let one = pick (eqb (settings_of e.act).p p) (e ∷ []) [] in
      ap (λ (l : List Event). one ++ l) (with_append es fs) ∙ sym (append_assoc one (events_with p es) (events_with p fs))

  -- a call with this p stays
  pub with_here : (es : List Event) (e : Event) (fs : List Event) → (settings_of e.act).p ≡ p → events_with p (es ++ (e ∷ fs)) ≡ events_with p es ++ (e ∷ events_with p fs)
  unfolding events_with
  with_here es e fs h =
      with_append es (e ∷ fs) ∙ ap (λ (b : Bool). events_with p es ++ (pick b (e ∷ []) [] ++ events_with p fs)) (eq-eqb (settings_of e.act).p p h)

  -- another goes
  with_gone : (es : List Event) (e : Event) → ((settings_of e.act).p ≡ p → ⊥) → events_with p (es ++ (e ∷ [])) ≡ events_with p es
  unfolding events_with
  with_gone es e n =
      with_append es (e ∷ [])
      ∙ ap (λ (b : Bool). events_with p es ++ (pick b (e ∷ []) [] ++ [])) (ne_eqb (settings_of e.act).p p n)
      ∙ append-nil (events_with p es)

  -- the calls up to some that are behind e
  pub stands_upto : (es : List Event) (e : Event) (fs gs : List Event) → Stands p (es ++ (e ∷ (fs ++ gs))) → Stands p (es ++ (e ∷ fs))
  stands_upto es e fs gs st = stands_front p (es ++ (e ∷ fs)) gs (subst (Stands p) (sym (append_assoc es (e ∷ fs) gs)) st)

  -- ---- along a stretch es behind the calls before: M of these, and of the two without the calls that have another p
  module _ (M : List Event → List Event → List Event → List Event → Type 0) (none : (before : List Event) → M before [] (events_with p before) [])
      (stays : (before : List Event) (e : Event) (es fs : List Event) → Stands p before → M (before ++ (e ∷ [])) es (events_with p before ++ (e ∷ [])) fs
      → M before (e ∷ es) (events_with p before) (e ∷ fs))
      (goes : (before : List Event) (e : Event) (es fs : List Event) → (e.answer.number ≡ 0 → ⊥) → M (before ++ (e ∷ [])) es (events_with p before) fs
      → M before (e ∷ es) (events_with p before) fs) where
    pub along : (es before : List Event) → Stands p before → Stands p es → M before es (events_with p before) (events_with p es)
    unfolding events_with
    along [] before st su = none before
    along (e ∷ es) before st su = go (eqb (settings_of e.act).p p) refl (along es (before ++ (e ∷ [])) (more before st) su.1)
      where
        more : (l : List Event) → Stands p l → Stands p (l ++ (e ∷ []))
        more [] k = (su.0, tt)
        more (d ∷ l) k = (k.0, more l k.1)

        go : (b : Bool) → eqb (settings_of e.act).p p ≡ b → M (before ++ (e ∷ [])) es (events_with p (before ++ (e ∷ []))) (events_with p es)
            → M before (e ∷ es) (events_with p before) (pick b (e ∷ []) [] ++ events_with p es)
        go true h k =
            stays before e es (events_with p es) st
            (subst (λ (l : List Event). M (before ++ (e ∷ [])) es l (events_with p es)) (with_here before e [] (eqb-true _ _ h)) k)
        go false h k =
            let n = eqb-false _ _ h in
            goes before e es (events_with p es) (λ z. n (su.0 z)) (subst (λ (l : List Event). M (before ++ (e ∷ [])) es l (events_with p es)) (with_gone before e n) k)

  -- ---- what does not see them
  pub gather_with : {A : Type 0} (f : Act → Answer → List A) (es : List Event) → Stands p es → gather f (events_with p es) ≡ gather f es
  unfolding gather events_with
  gather_with {A} f es =
      along (λ before es bs fs. gather f fs ≡ gather f es) (λ before. refl)
      (λ before e es fs st k. ap (λ (l : List A). pick (eqb e.answer.number 0) (f e.act e.answer) [] ++ l) k)
      (λ before e es fs n k. k ∙ sym (ap (λ (b : Bool). pick b (f e.act e.answer) [] ++ gather f es) (ne_eqb e.answer.number 0 n))) es [] tt

  module _ (es : List Event) (st : Stands p es) where
    pub left_with : (id : ℕ) → left_of p id (events_with p es) ≡ left_of p id es
    unfolding left_of
    left_with id =
        ap₂ (λ (ss us : List (List ℕ)). rests p (length (of_id p id ss)) us) (gather_with packets_of es st) (gather_with (unit_for id) es st)

    pub waiting_with_law : (id : ℕ) → waiting_at p id (events_with p es) ≡ waiting_at p id es
    unfolding waiting_at
    waiting_with_law id = ap (λ (us : List (List ℕ)). waits p (map length us)) (left_with id)

    pub three_with : waiting_three p (events_with p es) ≡ waiting_three p es
    three_with = three_is (waiting_three p (events_with p es)) _ _ _ (waiting_with_law 0) (waiting_with_law 1) (waiting_with_law 2)

    by_with : (t : ℕ) (a : Act) → turn_by p (events_with p es) t a ≡ turn_by p es t a
    unfolding turn_by
    by_with t (load g id unit) = refl
    by_with t (frame g out) = ap (λ (w : Three). (hand_for g w t).turn) three_with

  pub turn_with : (es : List Event) → Stands p es → turn_at p (events_with p es) ≡ turn_at p es
  unfolding turn_from events_with
  turn_with es st =
      along (λ before es bs fs. (t : ℕ) → turn_from p bs t fs ≡ turn_from p before t es) (λ before t. refl)
      (λ before e es fs sb k t.
      ap (λ (u : ℕ). turn_from p (events_with p before ++ (e ∷ [])) (pick (eqb e.answer.number 0) u t) fs) (by_with before sb t e.act) ∙ k _)
      (λ before e es fs n k t.
      k t ∙ sym (ap (λ (b : Bool). turn_from p (before ++ (e ∷ [])) (pick b (turn_by p before t e.act) t) es) (ne_eqb e.answer.number 0 n))) es [] tt st 0
