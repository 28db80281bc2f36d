-- What each way through the code of `planned` comes to. Assumes nothing.
use Prim.Native.Nat.{ℕ}
use mathlib.Core.Path.{◌≡◌, ◌∙◌, ap}
use mathlib.Core.List.{List}
use borrow.Author.Tests.{eq-eqb, ne_eqb}
use lib.Dec.{eqb}
use Rattle.laws.specs.Pick.{pick}
use Rattle.hand.specs.Hand.{no_three}
use Rattle.plans.specs.Plans.{plans_for, in_force}
use Rattle.plans.specs.declared.Plans.{Plans}
use Rattle.sender.specs.Rings.{ring_load_for, ring_store_for, ring_frame_for, ring_frame_out}
use Rattle.sender.specs.declared.Sender.{Sender}
use Rattle.sender.specs.declared.Loaded.{Loaded}
use Rattle.sender.specs.declared.Framed as sent
use Rattle.planned.specs.Planned.{plan_load_for, plan_store_for, framed_by, plan_frame_for, plan_frame_out}
use Rattle.planned.specs.declared.Framed.{Framed}

-- ---- the record after a frame
pub kept_then : (number : ℕ) (g h : Plans) → number ≡ 0 → g ≡ pick (eqb number 0) g h
kept_then number g h e = simp (eq-eqb number 0 e)

pub kept_was : (number : ℕ) (g h : Plans) → (number ≡ 0 → ⊥) → h ≡ pick (eqb number 0) g h
kept_was number g h e = simp (ne_eqb number 0 e)

-- ---- load
module _ (g : Plans) (s : Sender) (id : ℕ) (unit store : List ℕ) (k : ℕ) (e : k ≡ plans_for g) where
  pub load_refused_law : (k ≡ 0 → ⊥)
      → (◌≡◌ {A = Loaded} (record { number = k; next = s }) (plan_load_for g s id unit store)) × (store ≡ plan_store_for g s id unit store)
  unfolding plan_load_for plan_store_for
  load_refused_law h = (simp (← e, ne_eqb k 0 h), simp (← e, ne_eqb k 0 h))

  pub load_done : k ≡ 0 → (r : Loaded) (d : List ℕ) → r ≡ ring_load_for g.now s id unit store → d ≡ ring_store_for g.now s id unit store
      → (r ≡ plan_load_for g s id unit store) × (d ≡ plan_store_for g s id unit store)
  unfolding plan_load_for plan_store_for
  load_done z r d er ed = (simp (← e, eq-eqb k 0 z) er, simp (← e, eq-eqb k 0 z) ed)

-- ---- frame
module _ (g : Plans) (f : ℕ) (s : Sender) (store out : List ℕ) (k : ℕ) (e : k ≡ plans_for g) where
  pub frame_refused : (k ≡ 0 → ⊥)
      → (◌≡◌ {A = Framed} (record { number = k; next = s; packets = no_three; spares = 0; filler = 0; settings = g }) (plan_frame_for g f s store out))
      × (out ≡ plan_frame_out g f s store out)
  unfolding plan_frame_for plan_frame_out
  frame_refused h = (simp (← e, ne_eqb k 0 h), simp (← e, ne_eqb k 0 h))

  pub frame_done : k ≡ 0 → (t : Plans) → t ≡ in_force f g → (r : sent.Framed) (o : List ℕ) → r ≡ ring_frame_for t.now s store out
      → o ≡ ring_frame_out t.now s store out → (u : Plans) → u ≡ pick (eqb r.number 0) t g
      → (◌≡◌ {A = Framed} (record { number = r.number; next = r.next; packets = r.packets; spares = r.spares; filler = r.filler; settings = u }) (plan_frame_for g f s store out))
      × (o ≡ plan_frame_out g f s store out)
  unfolding plan_frame_for framed_by plan_frame_out
  frame_done z t et r o er eo u eu =
      (simp (← e, eq-eqb k 0 z, eu, er, et), simp (← e, eq-eqb k 0 z) (eo ∙ ap (λ (x : Plans). ring_frame_out x.now s store out) et))
