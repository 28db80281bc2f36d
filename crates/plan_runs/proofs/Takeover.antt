-- The takeover over runs: up to the first accepted frame that names the count all are filled by the first set; that frame and all after it by
-- the second. Assumes nothing.
use Prim.Native.Nat.{ℕ, suc, ◌-◌}
use mathlib.Core.Path.{◌≡◌, refl, sym, ap, ◌∙◌}
use mathlib.Core.List.{List, [], ◌∷◌, ◌++◌}
use mathlib.Core.Bool.{Bool, true, false}
use native.Mathlib.Omega.{arith}
use borrow.Author.Tests.{lt-ltb, le-ltb, ltb-true, ltb-false}
use lib.Dec.{eqb, ltb}
use lib.ListN.{length, replicate}
use Rattle.laws.specs.Pick.{pick}
use Rattle.hand.specs.declared.Settings.{Settings}
use Rattle.plans.specs.Plans.{second_of, taken, in_force}
use Rattle.plans.specs.declared.Plans.{Plans}
use Rattle.planned.specs.Planned.{plan_frame_for}
use Rattle.plan_runs.specs.Run.{Ask, give, write, change, PlanDesk, answer_plan, after_plan, run_plan, through, count_by, counts_in, set_by, sets_in, first_of, Unchanged}
use Rattle.plan_runs.specs.Takeover.{Switched, Takeover}
use Rattle.plan_runs.proofs.Record.{frame_record}
use Rattle.plan_runs.proofs.Once.{none_force, change_refused}
use Rattle.plan_runs.proofs.Wrap.{first_counted}

-- the record after a frame, where it came as g
record_after : (g : Plans) (f : ℕ) (out : List ℕ) (b : PlanDesk) → b.plans ≡ g
    → (after_plan (write f out) b).plans ≡ pick (eqb (answer_plan (write f out) b).number 0) (in_force f g) g
unfolding after_plan answer_plan
record_after g f out b e =
    frame_record b.plans f b.desk.state b.desk.store out
    ∙ ap (λ (x : Plans). pick (eqb (plan_frame_for b.plans f b.desk.state b.desk.store out).number 0) (in_force f x) x) e

-- ---- none waits
record Settled (g : Plans) (sets : List Settings) (fs : List ℕ) (last : Plans) : Type 0 where
  all : sets ≡ replicate (length fs) g.now
  same : last ≡ g

frame_settled : (g : Plans) → g.second.waits ≡ false → (f : ℕ) (out : List ℕ) (b : PlanDesk) → b.plans ≡ g → (sets : List Settings) (fs : List ℕ) (last : Plans)
    → ((after_plan (write f out) b).plans ≡ g → Settled g sets fs last)
    → Settled g (set_by (write f out) b ++ sets) (count_by (write f out) b ++ fs) last
unfolding set_by count_by
frame_settled g w f out b e sets fs last k = go (eqb (answer_plan (write f out) b).number 0) (record_after g f out b e)
  where
    at_force : (in_force f b.plans).now ≡ g.now
    at_force = ap (λ (x : Plans). (in_force f x).now) e ∙ ap (λ (x : Plans). x.now) (none_force g w f)

    go : (d : Bool) → (after_plan (write f out) b).plans ≡ pick d (in_force f g) g
        → Settled g (pick d ((in_force f b.plans).now ∷ []) [] ++ sets) (pick d (f ∷ []) [] ++ fs) last
    go false r = k r
    go true r =
        let i = k (r ∙ none_force g w f) in
        record { all = ap (λ (x : Settings). x ∷ sets) at_force ∙ ap (λ (l : List Settings). g.now ∷ l) i.all; same = i.same }

settled : (g : Plans) → g.second.waits ≡ false → (asks : List Ask) (b : PlanDesk) → b.plans ≡ g → Unchanged asks b
    → Settled g (sets_in asks b) (counts_in asks b) (run_plan asks b).plans
unfolding through run_plan set_by count_by after_plan answer_plan
settled g w [] b e st = record { all = refl; same = e }
settled g w (give id unit ∷ rest) b e st = settled g w rest (after_plan (give id unit) b) e st.1
settled g w (change c n share ceiling ∷ rest) b e st =
    settled g w rest (after_plan (change c n share ceiling) b) (change_refused b.plans c n share ceiling st.0 ∙ e) st.1
settled g w (write f out ∷ rest) b e st =
    frame_settled g w f out b e (sets_in rest (after_plan (write f out) b)) (counts_in rest (after_plan (write f out) b)) (run_plan rest (after_plan (write f out) b)).plans
    (λ r. settled g w rest (after_plan (write f out) b) r st.1)

-- ---- one waits
one_less : (n k : ℕ) → n - k ≡ suc n - suc k
one_less n k = omega arith

none_less : (n : ℕ) → suc n ≡ suc n - 0
none_less n = omega arith

some : (n : ℕ) → true ≡ ltb 0 (suc n)
some n = sym (lt-ltb 0 (suc n) (omega arith))

one_more : (k n : ℕ) → ltb k n ≡ ltb (suc k) (suc n)
one_more k n = go (ltb k n) refl
  where
    go : (d : Bool) → ltb k n ≡ d → d ≡ ltb (suc k) (suc n)
    go true e = sym (lt-ltb (suc k) (suc n) (omega (arith, ltb-true k n e)))
    go false e = sym (le-ltb (suc k) (suc n) (omega (arith, ltb-false k n e)))

frame_taken : (g : Plans) → g.second.waits ≡ true → (f : ℕ) (out : List ℕ) (b : PlanDesk) → b.plans ≡ g → (sets : List Settings) (fs : List ℕ) (last : Plans)
    → ((after_plan (write f out) b).plans ≡ g → Switched g sets fs last)
    → ((after_plan (write f out) b).plans ≡ taken g → Settled (taken g) sets fs last)
    → Switched g (set_by (write f out) b ++ sets) (count_by (write f out) b ++ fs) last
unfolding set_by count_by first_of in_force
frame_taken g w f out b e sets fs last k t = go (eqb (answer_plan (write f out) b).number 0) (record_after g f out b e)
  where
    c : ℕ
    c = g.second.count

    at_force : (d : Bool) → eqb c f ≡ d → in_force f b.plans ≡ pick d (taken g) g
    at_force d h = ap (in_force f) e ∙ simp (w, h)

    at_once : eqb c f ≡ true → 0 ≡ pick (eqb c f) 0 (suc (first_of c fs))
    at_once h = simp h

    later : eqb c f ≡ false → suc (first_of c fs) ≡ pick (eqb c f) 0 (suc (first_of c fs))
    later h = simp h

    more : (d : Bool) → eqb c f ≡ d → (after_plan (write f out) b).plans ≡ in_force f g → Switched g ((in_force f b.plans).now ∷ sets) (f ∷ fs) last
    more true h r =
        let i = t (r ∙ simp (w, h)) in
        record {
          split =
              ap (λ (x : Plans). x.now ∷ sets) (at_force true h) ∙ ap (λ (l : List Settings). second_of g ∷ l) i.all
              ∙ ap (λ (m : ℕ). replicate m (second_of g)) (none_less (length fs))
              ∙ ap (λ (m : ℕ). replicate m g.now ++ replicate (suc (length fs) - m) (second_of g)) (at_once h);
          left =
              i.same ∙ ap (λ (d : Bool). pick d (taken g) g) (some (length fs))
              ∙ ap (λ (m : ℕ). pick (ltb m (suc (length fs))) (taken g) g) (at_once h);
        }
    more false h r =
        let i = k (r ∙ simp (w, h)) in
        record {
          split =
              ap (λ (x : Plans). x.now ∷ sets) (at_force false h) ∙ ap (λ (l : List Settings). g.now ∷ l) i.split
              ∙ ap (λ (m : ℕ). g.now ∷ (replicate (first_of c fs) g.now ++ replicate m (second_of g))) (one_less (length fs) (first_of c fs))
              ∙ ap (λ (m : ℕ). replicate m g.now ++ replicate (suc (length fs) - m) (second_of g)) (later h);
          left =
              i.left ∙ ap (λ (d : Bool). pick d (taken g) g) (one_more (first_of c fs) (length fs))
              ∙ ap (λ (m : ℕ). pick (ltb m (suc (length fs))) (taken g) g) (later h);
        }

    go : (d : Bool) → (after_plan (write f out) b).plans ≡ pick d (in_force f g) g
        → Switched g (pick d ((in_force f b.plans).now ∷ []) [] ++ sets) (pick d (f ∷ []) [] ++ fs) last
    go false r = k r
    go true r = more (eqb c f) refl r

takes : (g : Plans) → g.second.waits ≡ true → (asks : List Ask) (b : PlanDesk) → b.plans ≡ g → Unchanged asks b
    → Switched g (sets_in asks b) (counts_in asks b) (run_plan asks b).plans
unfolding through run_plan set_by count_by after_plan answer_plan first_of
takes g w [] b e st = record { split = refl; left = e }
takes g w (give id unit ∷ rest) b e st = takes g w rest (after_plan (give id unit) b) e st.1
takes g w (change c n share ceiling ∷ rest) b e st =
    takes g w rest (after_plan (change c n share ceiling) b) (change_refused b.plans c n share ceiling st.0 ∙ e) st.1
takes g w (write f out ∷ rest) b e st =
    frame_taken g w f out b e (sets_in rest (after_plan (write f out) b)) (counts_in rest (after_plan (write f out) b)) (run_plan rest (after_plan (write f out) b)).plans
    (λ r. takes g w rest (after_plan (write f out) b) r st.1) (λ r. settled (taken g) refl rest (after_plan (write f out) b) r st.1)

-- ---- over runs
pub takeover : Takeover
takeover asks x w st =
    record {
      first = takes x.plans w asks x refl st;
      counted = λ f hf hc k. first_counted x.plans.second.count f (counts_in asks x) hc hf k;
    }
