-- The record of settings: what the check says of it, and that every call keeps it within the limits, with its p. Assumes nothing.
use Prim.Native.Nat.{ℕ}
use mathlib.Core.Path.{◌≡◌, refl, sym, subst}
use mathlib.Core.List.{List}
use mathlib.Core.Bool.{Bool, true, false, not, ◌&&◌, true≢false}
use native.Mathlib.Omega.{arith}
use borrow.Author.Tests.{eq-eqb, eqb-true}
use lib.Dec.{eqb}
use Rattle.laws.specs.Pick.{pick}
use Rattle.laws.proofs.Flags.{and_l}
use Rattle.hand.specs.Settings.{settings_for}
use Rattle.hand.specs.declared.Three.{Three}
use Rattle.plans.specs.Plans.{set_with, second_of, plan_tests, plans_for, taken, in_force, changed, change_tests, change_for}
use Rattle.plans.specs.declared.Plans.{Plans}
use Rattle.planned.specs.Planned.{framed_by, plan_frame_for}
use Rattle.sender.specs.declared.Sender.{Sender}
use Rattle.plan_runs.specs.Run.{Ask, give, write, change, PlanDesk, after_plan}

-- both sets are within the limits
pub record Fine (g : Plans) : Type 0 where
  pub first : settings_for g.now ≡ 0
  pub waiting : g.second.waits ≡ true → settings_for (second_of g) ≡ 0

two_tests : (a w d : Bool) → ◌≡◌ {A = ℕ} (pick (not a) 13 (pick (w && not d) 13 0)) 0 → (a ≡ true) × (w ≡ true → d ≡ true)
two_tests false w d h = absurd (omega arith)
two_tests true false d h = (refl, λ z. absurd (true≢false (sym z)))
two_tests true true false h = absurd (omega arith)
two_tests true true true h = (refl, λ z. refl)

two_back : (a w d : Bool) → a ≡ true → (w ≡ true → d ≡ true) → ◌≡◌ {A = ℕ} (pick (not a) 13 (pick (w && not d) 13 0)) 0
two_back true false d e h = refl
two_back true true true e h = refl
two_back true true false e h = absurd (true≢false (sym (h refl)))
two_back false w d e h = absurd (true≢false (sym e))

pub fine : (g : Plans) → plans_for g ≡ 0 → Fine g
unfolding plans_for plan_tests
fine g h =
    let t = two_tests (eqb (settings_for g.now) 0) g.second.waits (eqb (settings_for (second_of g)) 0) h in
    record { first = eqb-true _ _ t.0; waiting = λ w. eqb-true _ _ (t.1 w) }

pub fine_back : (g : Plans) → Fine g → plans_for g ≡ 0
unfolding plans_for plan_tests
fine_back g k =
    two_back (eqb (settings_for g.now) 0) g.second.waits (eqb (settings_for (second_of g)) 0) (eq-eqb _ _ k.first) (λ w. eq-eqb _ _ (k.waiting w))

-- ---- the set in force
pub force_p : (f : ℕ) (g : Plans) → (in_force f g).now.p ≡ g.now.p
unfolding in_force
force_p f g = go (g.second.waits && eqb g.second.count f)
  where
    go : (b : Bool) → (pick b (taken g) g).now.p ≡ g.now.p
    go true = refl
    go false = refl

pub force_fine : (f : ℕ) (g : Plans) → Fine g → Fine (in_force f g)
unfolding in_force
force_fine f g k = go (g.second.waits && eqb g.second.count f) refl
  where
    go : (b : Bool) → (g.second.waits && eqb g.second.count f) ≡ b → Fine (pick b (taken g) g)
    go true e = record { first = k.waiting (and_l g.second.waits (eqb g.second.count f) e); waiting = λ z. absurd (true≢false (sym z)) }
    go false e = k

-- ---- the record after each call, by its number
pub frame_record : (g : Plans) (f : ℕ) (s : Sender) (store out : List ℕ)
    → (plan_frame_for g f s store out).settings ≡ pick (eqb (plan_frame_for g f s store out).number 0) (in_force f g) g
unfolding plan_frame_for framed_by
frame_record g f s store out = go (eqb (plans_for g) 0) refl
  where
    go : (b : Bool) → eqb (plans_for g) 0 ≡ b → (plan_frame_for g f s store out).settings ≡ pick (eqb (plan_frame_for g f s store out).number 0) (in_force f g) g
    go true e = simp e
    go false e = simp e

pub change_record : (g : Plans) (c n : ℕ) (share ceiling : Three)
    → (change_for g c n share ceiling).next ≡ pick (eqb (change_for g c n share ceiling).number 0) (changed g c n share ceiling) g
unfolding change_for
change_record g c n share ceiling = refl

two_thirteens : (a d : Bool) → ◌≡◌ {A = ℕ} (pick (not a) 13 (pick (not d) 13 0)) 0 → (a ≡ true) × (d ≡ true)
two_thirteens true true h = (refl, refl)
two_thirteens true false h = absurd (omega arith)
two_thirteens false d h = absurd (omega arith)

-- an accepted change: the record and the new set are within the limits
pub change_fit : (g : Plans) (c n : ℕ) (share ceiling : Three) → (change_for g c n share ceiling).number ≡ 0
    → (plans_for g ≡ 0) × (settings_for (set_with g n share ceiling) ≡ 0)
unfolding change_for change_tests
change_fit g c n share ceiling h =
    let t = two_thirteens (eqb (plans_for g) 0) (eqb (settings_for (set_with g n share ceiling)) 0) h in (eqb-true _ _ t.0, eqb-true _ _ t.1)

-- ---- p stays, and the limits are kept
pub after_p : (a : Ask) (b : PlanDesk) → (after_plan a b).plans.now.p ≡ b.plans.now.p
unfolding after_plan change_for
after_p (give id unit) b = refl
after_p (write f out) b = ap_now (frame_record b.plans f b.desk.state b.desk.store out) (go (eqb (plan_frame_for b.plans f b.desk.state b.desk.store out).number 0))
  where
    ap_now : {x y : Plans} → x ≡ y → y.now.p ≡ b.plans.now.p → x.now.p ≡ b.plans.now.p
    ap_now e h = subst (λ (z : Plans). z.now.p ≡ b.plans.now.p) (sym e) h

    go : (d : Bool) → (pick d (in_force f b.plans) b.plans).now.p ≡ b.plans.now.p
    go true = force_p f b.plans
    go false = refl
after_p (change c n share ceiling) b = go (eqb (change_for b.plans c n share ceiling).number 0)
  where
    go : (d : Bool) → (pick d (changed b.plans c n share ceiling) b.plans).now.p ≡ b.plans.now.p
    go true = refl
    go false = refl

pub after_fine : (a : Ask) (b : PlanDesk) → Fine b.plans → Fine (after_plan a b).plans
unfolding after_plan
after_fine (give id unit) b k = k
after_fine (write f out) b k =
    subst Fine (sym (frame_record b.plans f b.desk.state b.desk.store out)) (go (eqb (plan_frame_for b.plans f b.desk.state b.desk.store out).number 0))
  where
    go : (d : Bool) → Fine (pick d (in_force f b.plans) b.plans)
    go true = force_fine f b.plans k
    go false = k
after_fine (change c n share ceiling) b k =
    subst Fine (sym (change_record b.plans c n share ceiling)) (go (eqb (change_for b.plans c n share ceiling).number 0) refl)
  where
    go : (d : Bool) → eqb (change_for b.plans c n share ceiling).number 0 ≡ d → Fine (pick d (changed b.plans c n share ceiling) b.plans)
    go true e = record { first = k.first; waiting = λ z. (change_fit b.plans c n share ceiling (eqb-true _ _ e)).1 }
    go false e = k
