-- One call by a record of settings: where no set waits it is the sender's own; what becomes of the record; what an accepted frame is. Assumes
-- nothing.
use Prim.Native.Nat.{ℕ}
use mathlib.Core.Path.{◌≡◌, refl, ◌∙◌, ap}
use mathlib.Core.List.{List}
use mathlib.Core.Bool.{Bool, true, false, not, ◌&&◌}
use mathlib.Core.Logic.{◌↔◌}
use borrow.Author.Tests.{eq-eqb, ne_eqb, eqb-true, eqb-false}
use lib.Dec.{eqb}
use Rattle.laws.specs.Pick.{pick}
use Rattle.hand.specs.Settings.{settings_for, Allowed}
use Rattle.hand.specs.Hand.{no_three}
use Rattle.hand.specs.declared.Three.{Three}
use Rattle.hand.specs.declared.Settings.{Settings}
use Rattle.hand.proofs.Allowed.{allowed, allowed_back}
use Rattle.plans.specs.Plans.{set_with, second_of, plan_tests, plans_for, taken, in_force, changed, change_tests, change_for}
use Rattle.plans.specs.declared.Plans.{Plans}
use Rattle.planned.specs.Planned.{plan_load_for, plan_store_for, framed_by, plan_frame_for, plan_frame_out}
use Rattle.sender.specs.Rings.{ring_load_tests, ring_load_number, ring_load_for, ring_store_for, ring_frame_tests, ring_frame_number, ring_frame_for, ring_frame_out}
use Rattle.sender.specs.declared.Sender.{Sender}
use Rattle.sender.specs.declared.Framed as sent
use Rattle.sender.proofs.Going.{ring_frame_says}
use Rattle.demand.specs.Run.{Answer}
use Rattle.layers.specs.Run.{RingDesk}
use Rattle.layers.proofs.Rings.{refused_same}
use Rattle.plan_runs.specs.Run.{Ask, give, write, change, PlanDesk, answer_plan, after_plan}
use Rattle.plan_runs.specs.Once.{with_plans, OneCall}
use Rattle.plan_runs.proofs.Record.{fine, fine_back, force_fine, frame_record, change_record, change_fit}
use Rattle.plan_runs.proofs.Rings.{given, written}

-- ---- none waits
module _ (g : Plans) (w : g.second.waits ≡ false) where
  pub none_force : (f : ℕ) → in_force f g ≡ g
  unfolding in_force
  none_force f = simp w

  none_plans : plans_for g ≡ pick (not (eqb (settings_for g.now) 0)) 13 0
  unfolding plans_for plan_tests
  none_plans = simp w

  none_load : (s : Sender) (id : ℕ) (unit store : List ℕ)
      → (plan_load_for g s id unit store ≡ ring_load_for g.now s id unit store) × (plan_store_for g s id unit store ≡ ring_store_for g.now s id unit store)
  unfolding plan_load_for plan_store_for ring_load_for ring_store_for ring_load_number ring_load_tests
  none_load s id unit store = go (eqb (settings_for g.now) 0) refl
    where
      go : (b : Bool) → eqb (settings_for g.now) 0 ≡ b
          → (plan_load_for g s id unit store ≡ ring_load_for g.now s id unit store) × (plan_store_for g s id unit store ≡ ring_store_for g.now s id unit store)
      go true e = (simp (none_plans, e), simp (none_plans, e))
      go false e = (simp (none_plans, e), simp (none_plans, e))

  none_frame : (f : ℕ) (s : Sender) (store out : List ℕ)
      → (plan_frame_for g f s store out ≡ with_plans (ring_frame_for g.now s store out) g)
      × (plan_frame_out g f s store out ≡ ring_frame_out g.now s store out)
  unfolding plan_frame_for framed_by plan_frame_out ring_frame_for ring_frame_out ring_frame_number ring_frame_tests
  none_frame f s store out = go (eqb (settings_for g.now) 0) refl
    where
      same : (b : Bool) → pick b g g ≡ g
      same true = refl
      same false = refl

      go : (b : Bool) → eqb (settings_for g.now) 0 ≡ b
          → (plan_frame_for g f s store out ≡ with_plans (ring_frame_for g.now s store out) g)
          × (plan_frame_out g f s store out ≡ ring_frame_out g.now s store out)
      go true e = (simp (none_plans, e, none_force f, same), simp (none_plans, e, none_force f))
      go false e = (simp (none_plans, e), simp (none_plans, e))

-- ---- the record after a frame
frame_takes : (g : Plans) (f : ℕ) (s : Sender) (store out : List ℕ) → g.second.waits ≡ true → g.second.count ≡ f → (plan_frame_for g f s store out).number ≡ 0
    → (plan_frame_for g f s store out).settings ≡ taken g
unfolding in_force
frame_takes g f s store out w c z = frame_record g f s store out ∙ simp (eq-eqb _ 0 z, w, eq-eqb _ f c)

frame_other : (g : Plans) (f : ℕ) (s : Sender) (store out : List ℕ) → (g.second.waits && eqb g.second.count f) ≡ false → (plan_frame_for g f s store out).settings ≡ g
unfolding in_force
frame_other g f s store out h = frame_record g f s store out ∙ go (eqb (plan_frame_for g f s store out).number 0)
  where
    go : (b : Bool) → pick b (pick (g.second.waits && eqb g.second.count f) (taken g) g) g ≡ g
    go true = simp h
    go false = refl

-- ---- and after a change
change_takes : (g : Plans) (c n : ℕ) (share ceiling : Three) → (change_for g c n share ceiling).number ≡ 0
    → (change_for g c n share ceiling).next ≡ changed g c n share ceiling
change_takes g c n share ceiling z = change_record g c n share ceiling ∙ simp (eq-eqb _ 0 z)

pub change_refused : (g : Plans) (c n : ℕ) (share ceiling : Three) → ((change_for g c n share ceiling).number ≡ 0 → ⊥) → (change_for g c n share ceiling).next ≡ g
change_refused g c n share ceiling h = change_record g c n share ceiling ∙ simp (ne_eqb _ 0 h)

-- ---- an accepted frame
frame_accepted : (g : Plans) (f : ℕ) (s : Sender) (store out : List ℕ) → (plan_frame_for g f s store out).number ≡ 0
    → (plan_frame_for g f s store out ≡ with_plans (ring_frame_for (in_force f g).now s store out) (in_force f g))
    × (plan_frame_out g f s store out ≡ ring_frame_out (in_force f g).now s store out)
unfolding plan_frame_for framed_by plan_frame_out
frame_accepted g f s store out z = go (eqb (plans_for g) 0) refl
  where
    go : (b : Bool) → eqb (plans_for g) 0 ≡ b
        → (plan_frame_for g f s store out ≡ with_plans (ring_frame_for (in_force f g).now s store out) (in_force f g))
        × (plan_frame_out g f s store out ≡ ring_frame_out (in_force f g).now s store out)
    go true e = let z' : (ring_frame_for (in_force f g).now s store out).number ≡ 0 = simp e at z in (simp (e, eq-eqb _ 0 z'), simp e)
    go false e = absurd (eqb-false (plans_for g) 0 e (simp e at z))

-- ---- a refused call
both : (x y : PlanDesk) → x.plans ≡ y.plans → x.desk ≡ y.desk → x ≡ y
both x y e h =
    ap (λ (g : Plans). record { plans = g; desk = x.desk }) e ∙ ap (λ (d : RingDesk). record { plans = y.plans; desk = d }) h

record_same : (g : Plans) (f : ℕ) (s : Sender) (store out : List ℕ) → ((plan_frame_for g f s store out).number ≡ 0 → ⊥) → (plan_frame_for g f s store out).settings ≡ g
record_same g f s store out n = frame_record g f s store out ∙ simp (ne_eqb _ 0 n)

refused : (a : Ask) (x : PlanDesk) → ((answer_plan a x).number ≡ 0 → ⊥) → after_plan a x ≡ x
unfolding answer_plan after_plan plan_load_for plan_store_for plan_frame_for change_for
refused (give id unit) x n = go (eqb (plans_for x.plans) 0) refl
  where
    go : (b : Bool) → eqb (plans_for x.plans) 0 ≡ b → after_plan (give id unit) x ≡ x
    go true e =
        let k = given x (eqb-true _ _ e) id unit in
        let same = k.desk ∙ refused_same _ x.desk (λ z. n (ap (λ (b : Answer). b.number) k.answer ∙ z)) in
        ap (λ (d : RingDesk). record { plans = x.plans; desk = d }) same
    go false e = simp e
refused (write f out) x n = go (eqb (plans_for x.plans) 0) refl
  where
    go : (b : Bool) → eqb (plans_for x.plans) 0 ≡ b → after_plan (write f out) x ≡ x
    go true e =
        let k = written x (eqb-true _ _ e) f out in
        let same = k.desk ∙ refused_same _ x.desk (λ z. n (ap (λ (b : Answer). b.number) k.answer ∙ z)) in
        both (after_plan (write f out) x) x (record_same x.plans f x.desk.state x.desk.store out n) same
    go false e = simp e
refused (change c n share ceiling) x h = ap (λ (g : Plans). record { plans = g; desk = x.desk }) (change_refused x.plans c n share ceiling h)

-- a refused frame of the sender reports nothing
ring_refused : (g : Settings) (s : Sender) (store out : List ℕ) → ((ring_frame_for g s store out).number ≡ 0 → ⊥)
    → (ring_frame_out g s store out ≡ out) × (ring_frame_for g s store out ≡ record { number = (ring_frame_for g s store out).number; next = s; packets = no_three; spares = 0; filler = 0 })
unfolding ring_frame_for ring_frame_out
ring_refused g s store out n =
    let h = ne_eqb (ring_frame_number g s store out) 0 (λ z. n (ring_frame_says g s store out ∙ z)) in (simp h, simp h)

refused_out : (g : Plans) (f : ℕ) (s : Sender) (store out : List ℕ) → ((plan_frame_for g f s store out).number ≡ 0 → ⊥)
    → (plan_frame_out g f s store out ≡ out)
    × (plan_frame_for g f s store out ≡ with_plans (record { number = (plan_frame_for g f s store out).number; next = s; packets = no_three; spares = 0; filler = 0 }) g)
unfolding plan_frame_for framed_by plan_frame_out
refused_out g f s store out n = go (eqb (plans_for g) 0) refl
  where
    go : (b : Bool) → eqb (plans_for g) 0 ≡ b
        → (plan_frame_out g f s store out ≡ out)
        × (plan_frame_for g f s store out ≡ with_plans (record { number = (plan_frame_for g f s store out).number; next = s; packets = no_three; spares = 0; filler = 0 }) g)
    go true e =
        let m : (ring_frame_for (in_force f g).now s store out).number ≡ 0 → ⊥ = λ z. n (simp e z) in
        let k = ring_refused (in_force f g).now s store out m in
        let h = ne_eqb (ring_frame_for (in_force f g).now s store out).number 0 m in
        (simp e k.0, simp (e, h) (ap (λ (o : sent.Framed). with_plans o g) k.1))
    go false e = (simp e, simp e)

-- ---- by an accepted record, and by another
accepted_load : (g : Plans) → plans_for g ≡ 0 → (s : Sender) (id : ℕ) (unit store : List ℕ)
    → (plan_load_for g s id unit store ≡ ring_load_for g.now s id unit store) × (plan_store_for g s id unit store ≡ ring_store_for g.now s id unit store)
unfolding plan_load_for plan_store_for
accepted_load g h s id unit store = (simp (eq-eqb _ 0 h), simp (eq-eqb _ 0 h))

accepted_number : (g : Plans) (f : ℕ) → plans_for g ≡ 0 → (s : Sender) (store out : List ℕ)
    → (plan_frame_for g f s store out).number ≡ (ring_frame_for (in_force f g).now s store out).number
unfolding plan_frame_for framed_by
accepted_number g f h s store out = simp (eq-eqb _ 0 h)

zero_or : (a w d : Bool) → (◌≡◌ {A = ℕ} (pick (not a) 13 (pick (w && not d) 13 0)) 0 → ⊥) → ◌≡◌ {A = ℕ} (pick (not a) 13 (pick (w && not d) 13 0)) 13
zero_or false w d n = refl
zero_or true true false n = refl
zero_or true true true n = absurd (n refl)
zero_or true false d n = absurd (n refl)

plans_13 : (g : Plans) → (plans_for g ≡ 0 → ⊥) → plans_for g ≡ 13
unfolding plans_for plan_tests
plans_13 g n = zero_or (eqb (settings_for g.now) 0) g.second.waits (eqb (settings_for (second_of g)) 0) n

other_number : (g : Plans) → (plans_for g ≡ 0 → ⊥) → (s : Sender) (f id : ℕ) (unit store out : List ℕ)
    → ((plan_load_for g s id unit store).number ≡ 13) × ((plan_frame_for g f s store out).number ≡ 13)
unfolding plan_load_for plan_frame_for
other_number g n s f id unit store out = (simp (ne_eqb (plans_for g) 0 n) (plans_13 g n), simp (ne_eqb (plans_for g) 0 n) (plans_13 g n))

-- ---- the checks
check : (g : Plans) → (plans_for g ≡ 0) ↔ (Allowed g.now × (g.second.waits ≡ true → Allowed (second_of g)))
check g = (
  (λ h. let k = fine g h in (allowed g.now k.first, λ w. allowed (second_of g) (k.waiting w))),
  (λ h. fine_back g (record { first = allowed_back g.now h.0; waiting = λ w. allowed_back (second_of g) (h.1 w) })),
)

change_ok : (g : Plans) (c n : ℕ) (share ceiling : Three) → plans_for g ≡ 0 → settings_for (set_with g n share ceiling) ≡ 0 → (change_for g c n share ceiling).number ≡ 0
unfolding change_for change_tests
change_ok g c n share ceiling h k = simp (h, k)

change_check : (g : Plans) (c n : ℕ) (share ceiling : Three)
    → ((change_for g c n share ceiling).number ≡ 0) ↔ ((plans_for g ≡ 0) × Allowed (set_with g n share ceiling))
change_check g c n share ceiling = (
  (λ h. let k = change_fit g c n share ceiling h in (k.0, allowed (set_with g n share ceiling) k.1)),
  (λ h. change_ok g c n share ceiling h.0 (allowed_back (set_with g n share ceiling) h.1)),
)

pub one_call : OneCall
one_call = record {
  check = check;
  in_force_law = λ g f h. (force_fine f g (fine g h)).first;
  loads = accepted_load;
  numbers = accepted_number;
  thirteen = other_number;
  frames = frame_accepted;
  none_loads = none_load;
  none_frames = none_frame;
  takes = frame_takes;
  other = frame_other;
  changes = change_takes;
  change_check = change_check;
  refused = refused;
  refused_out = refused_out;
}
