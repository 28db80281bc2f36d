-- One call of the sender with counts in 01's layout, from any desk: 01's call where the counts are right. Assumes nothing.
use Prim.Native.Nat.{ℕ, zero, suc, ◌<◌}
use mathlib.Core.Path.{◌≡◌, refl, sym, ap, ap₂, ◌∙◌, subst}
use mathlib.Core.List.{List, []}
use mathlib.Core.Bool.{Bool, true, false, not}
use native.Mathlib.Omega.{arith}
use borrow.Author.Tests.{eq-eqb, ne_eqb}
use lib.Dec.{eqb, lit<}
use lib.ListN.{length}
use Rattle.laws.specs.Pick.{pick}
use Rattle.hand.specs.Settings.{settings_for}
use Rattle.hand.specs.Hand.{no_three}
use Rattle.hand.specs.declared.Settings.{Settings}
use Rattle.queue.specs.Queue.{waiting}
use Rattle.queue.specs.Stored.{miscounts}
use Rattle.sender.specs.State.{queue_of}
use Rattle.sender.specs.Load.{load_tests, load_number, loaded, load_for, store_for}
use Rattle.sender.specs.Frame.{frame_tests, frame_number, framed, frame_for, frame_out, store_after}
use Rattle.sender.specs.Kept.{Kept, KeptFramed, stored_of, kept, miscounted, kept_load_tests, kept_load_number, kept_load_for, kept_store_for, kept_frame_tests, kept_frame_number, kept_framed, kept_frame_for, kept_frame_out, kept_store_after}
use Rattle.sender.specs.declared.Front.{Front}
use Rattle.sender.specs.Answers as answers
use Rattle.sender.proofs.Kept.{frame_says}
use Rattle.demand.specs.Run.{Act, load, frame, settings_of, after, answer}
use Rattle.layers.specs.KeptRun.{KeptDesk, plain, after_kept, answer_kept}
use Rattle.layers.proofs.SameChecks.{again}

-- each stored count is the sum over the units of its queue
abbrev pub RightKept : ℕ → Kept → Type 0
RightKept p k = (id : ℕ) → id < 3 → stored_of k id ≡ waiting p (queue_of k.front id)

-- a call gives what 01's call gives of the state without its counts
pub record StaysKept (a : Act) (x : KeptDesk) : Type 0 where
  pub answer : answer_kept a x ≡ answer a (plain x)
  pub desk : plain (after_kept a x) ≡ after a (plain x)

-- ---- the test of the counts
right_fine : (p : ℕ) (k : Kept) → RightKept p k → miscounted p k ≡ false
unfolding miscounted miscounts
right_fine p k r =
    simp (eq-eqb (stored_of k 0) _ (r 0 (lit< tt)), eq-eqb (stored_of k 1) _ (r 1 (lit< tt)), eq-eqb (stored_of k 2) _ (r 2 (lit< tt)))

-- 01's state with its counts
pub kept_right : (p : ℕ) (f : Front) → RightKept p (kept p f)
unfolding kept
kept_right p f zero h = refl
kept_right p f (suc zero) h = refl
kept_right p f (suc (suc zero)) h = refl
kept_right p f (suc (suc (suc id))) h = absurd (omega arith)

-- ---- numbers
module _ (g : Settings) (s : Kept) (h : miscounted g.p s ≡ false) where
  load_number_law : (id : ℕ) (unit store : List ℕ) → kept_load_number g s id unit store ≡ load_number g s.front id unit store
  unfolding kept_load_number kept_load_tests load_number load_tests
  load_number_law id unit store = rw h (again (not (eqb (settings_for g) 0)) _)

  frame_number_law : (store out : List ℕ) → kept_frame_number g s store out ≡ frame_number g s.front store out
  unfolding kept_frame_number kept_frame_tests frame_number frame_tests
  frame_number_law store out = rw h (again (not (eqb (settings_for g) 0)) _)

-- ---- what an accepted call leaves, and a refused one
pub accepted_right : (a : Act) (x : KeptDesk) → (answer_kept a x).number ≡ 0 → RightKept (settings_of a).p (after_kept a x).state
unfolding answer_kept after_kept kept_load_for kept_frame_for kept_framed
accepted_right (load g id unit) x z =
    subst (RightKept g.p) (sym (ap (λ (b : Bool). pick b (kept g.p (loaded x.state.front id (length unit))) x.state) (eq-eqb _ 0 z)))
    (kept_right g.p (loaded x.state.front id (length unit)))
accepted_right (frame g out) x z =
    subst (λ (f : KeptFramed). RightKept g.p f.next)
    (sym
    (ap (λ (b : Bool). pick b (kept_framed g x.state) (record { number = kept_frame_number g x.state x.store out; next = x.state; packets = no_three; spares = 0; filler = 0 }))
    (eq-eqb _ 0 (sym (frame_says g x.state x.store out) ∙ z))))
    (kept_right g.p (framed g x.state.front).next)

pub refused_same : (a : Act) (x : KeptDesk) → ((answer_kept a x).number ≡ 0 → ⊥) → after_kept a x ≡ x
unfolding answer_kept after_kept kept_load_for kept_store_for kept_frame_for kept_store_after
refused_same (load g id unit) x n = simp (ne_eqb (kept_load_number g x.state id unit x.store) 0 n)
refused_same (frame g out) x n =
    simp (ne_eqb (kept_frame_number g x.state x.store out) 0 (λ z. n (frame_says g x.state x.store out ∙ z)))

-- ---- where the counts are right
-- the answer to a frame, without the counts of the state after it
abbrev plain_framed : KeptFramed → answers.Framed
plain_framed f = record { number = f.number; next = f.next.front; packets = f.packets; spares = f.spares; filler = f.filler }

frame_either : (g : Settings) (s : Kept) (b : Bool) (k : ℕ)
    → plain_framed (pick b (kept_framed g s) (record { number = k; next = s; packets = no_three; spares = 0; filler = 0 }))
    ≡ pick b (framed g s.front) (record { number = k; next = s.front; packets = no_three; spares = 0; filler = 0 })
unfolding kept_framed kept framed
frame_either g s true k = refl
frame_either g s false k = refl

load_either : (s : Kept) (b : Bool) (p : ℕ) (f : Front) → (pick b (kept p f) s).front ≡ pick b f s.front
unfolding kept
load_either s true p f = refl
load_either s false p f = refl

module _ (g : Settings) (s : Kept) (h : miscounted g.p s ≡ false) where
  frame_same : (store out : List ℕ) → plain_framed (kept_frame_for g s store out) ≡ frame_for g s.front store out
  unfolding kept_frame_for frame_for
  frame_same store out = rw (frame_number_law g s h store out) (frame_either g s (eqb (frame_number g s.front store out) 0) (frame_number g s.front store out))

  frame_out_law : (store out : List ℕ) → kept_frame_out g s store out ≡ frame_out g s.front store out
  unfolding kept_frame_out frame_out
  frame_out_law store out = rw (frame_number_law g s h store out) refl

  frame_store : (store out : List ℕ) → kept_store_after g s store out ≡ store_after g s.front store out
  unfolding kept_store_after store_after
  frame_store store out = rw (frame_number_law g s h store out) refl

  load_next : (id : ℕ) (unit store : List ℕ) → (kept_load_for g s id unit store).next.front ≡ (load_for g s.front id unit store).next
  unfolding kept_load_for load_for
  load_next id unit store =
      load_either s (eqb (kept_load_number g s id unit store) 0) g.p (loaded s.front id (length unit))
      ∙ ap (λ (k : ℕ). pick (eqb k 0) (loaded s.front id (length unit)) s.front) (load_number_law g s h id unit store)

  load_store : (id : ℕ) (unit store : List ℕ) → kept_store_for g s id unit store ≡ store_for g s.front id unit store
  unfolding kept_store_for store_for
  load_store id unit store = rw (load_number_law g s h id unit store) refl

same_answer : (a : Act) (x : KeptDesk) → miscounted (settings_of a).p x.state ≡ false → answer_kept a x ≡ answer a (plain x)
unfolding answer_kept answer kept_load_for load_for
same_answer (load g id unit) x h =
    ap (λ (k : ℕ). record { number = k; packets = no_three; spares = 0; filler = 0; out = [] }) (load_number_law g x.state h id unit x.store)
same_answer (frame g out) x h =
    ap₂ (λ (f : answers.Framed) (o : List ℕ). record { number = f.number; packets = f.packets; spares = f.spares; filler = f.filler; out = o })
    (frame_same g x.state h x.store out) (frame_out_law g x.state h x.store out)

same_desk : (a : Act) (x : KeptDesk) → miscounted (settings_of a).p x.state ≡ false → plain (after_kept a x) ≡ after a (plain x)
unfolding after_kept after
same_desk (load g id unit) x h =
    ap₂ (λ (f : Front) (d : List ℕ). record { state = f; store = d }) (load_next g x.state h id unit x.store) (load_store g x.state h id unit x.store)
same_desk (frame g out) x h =
    ap₂ (λ (f : answers.Framed) (d : List ℕ). record { state = f.next; store = d }) (frame_same g x.state h x.store out)
    (frame_store g x.state h x.store out)

pub stays : (a : Act) (x : KeptDesk) → RightKept (settings_of a).p x.state → StaysKept a x
stays a x r =
    let h = right_fine (settings_of a).p x.state r in
    record { answer = same_answer a x h; desk = same_desk a x h }
