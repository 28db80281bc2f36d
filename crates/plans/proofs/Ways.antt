-- What each way through the code of `plans` comes to. Assumes nothing.
use Prim.Native.Nat.{ℕ}
use mathlib.Core.Path.{◌≡◌, refl, sym, ◌∙◌, ap}
use mathlib.Core.Bool.{true, false}
use borrow.Author.Tests.{eq-eqb, ne_eqb}
use Rattle.laws.proofs.Flags.{and_false}
use Rattle.hand.specs.Settings.{settings_for}
use Rattle.hand.specs.Hand.{no_three, Handed, hand_for}
use Rattle.hand.specs.declared.Three.{Three}
use Rattle.hand.specs.declared.Settings.{Settings}
use Rattle.hand.proofs.Allowed.{only, only_13}
use Rattle.plans.specs.Plans.{alone, set_with, second_of, plan_tests, plans_for, in_force, plan_hand_for, Changed, changed, change_tests, change_for}
use Rattle.plans.specs.declared.Plans.{Plans}

-- ---- the check
-- a refusal is 13
pub plans_13 : (g : Plans) (k : ℕ) → k ≡ plans_for g → (k ≡ 0 → ⊥) → k ≡ 13
unfolding plans_for plan_tests
plans_13 g k e h = e ∙ only 13 (plan_tests g) (refl, (refl, tt)) (λ z. h (e ∙ z))

pub first_bad : (g : Plans) (k : ℕ) → k ≡ settings_for g.now → (k ≡ 0 → ⊥) → k ≡ plans_for g
unfolding plans_for plan_tests
first_bad g k e h = let t : 13 ≡ plans_for g = simp (← e, ne_eqb k 0 h) in only_13 g.now k e h ∙ t

module _ (g : Plans) (e : 0 ≡ settings_for g.now) where
  pub none_waits : g.second.waits ≡ false → 0 ≡ plans_for g
  unfolding plans_for plan_tests
  none_waits w = simp (← e, w)

  module _ (w : g.second.waits ≡ true) (s : Settings) (es : s ≡ second_of g) (k : ℕ) (ek : k ≡ settings_for s) where
    at_second : settings_for (second_of g) ≡ k
    at_second = ap settings_for (sym es) ∙ sym ek

    pub second_bad : (k ≡ 0 → ⊥) → k ≡ plans_for g
    unfolding plans_for plan_tests
    second_bad h = let t : 13 ≡ plans_for g = simp (← e, w, at_second, ne_eqb k 0 h) in only_13 s k ek h ∙ t

    pub both_fit : k ≡ 0 → 0 ≡ plans_for g
    unfolding plans_for plan_tests
    both_fit h = simp (← e, w, at_second, h)

-- ---- the set in force
pub force_none : (g : Plans) (f : ℕ) → g.second.waits ≡ false → g ≡ in_force f g
unfolding in_force
force_none g f w = simp w

pub force_other : (g : Plans) (f : ℕ) → (g.second.count ≡ f → ⊥) → g ≡ in_force f g
unfolding in_force
force_other g f h = simp (ne_eqb g.second.count f h, and_false g.second.waits)

pub force_taken : (g : Plans) (f : ℕ) → g.second.waits ≡ true → g.second.count ≡ f → (s : Settings) → s ≡ second_of g → (r : Plans)
    → r ≡ alone s → r ≡ in_force f g
unfolding in_force
force_taken g f w h s es r er = simp (w, eq-eqb g.second.count f h, er, es)

-- ---- change
module _ (g : Plans) (c n : ℕ) (share ceiling : Three) where
  pub change_record : (k : ℕ) → k ≡ plans_for g → (k ≡ 0 → ⊥) → ◌≡◌ {A = Changed} (record { number = k; next = g }) (change_for g c n share ceiling)
  unfolding change_for change_tests
  change_record k e h =
      let t : ◌≡◌ {A = Changed} (record { number = 13; next = g }) (change_for g c n share ceiling) = simp (← e, ne_eqb k 0 h) in
      ap (λ (x : ℕ). record { number = x; next = g }) (plans_13 g k e h) ∙ t

  module _ (e : 0 ≡ plans_for g) (s : Settings) (es : s ≡ set_with g n share ceiling) (k : ℕ) (ek : k ≡ settings_for s) where
    at_set : settings_for (set_with g n share ceiling) ≡ k
    at_set = ap settings_for (sym es) ∙ sym ek

    pub change_set : (k ≡ 0 → ⊥) → ◌≡◌ {A = Changed} (record { number = k; next = g }) (change_for g c n share ceiling)
    unfolding change_for change_tests
    change_set h =
        let t : ◌≡◌ {A = Changed} (record { number = 13; next = g }) (change_for g c n share ceiling) = simp (← e, at_set, ne_eqb k 0 h) in
        ap (λ (x : ℕ). record { number = x; next = g }) (only_13 s k ek h) ∙ t

    pub change_done : k ≡ 0 → ◌≡◌ {A = Changed} (record { number = 0; next = changed g c n share ceiling }) (change_for g c n share ceiling)
    unfolding change_for change_tests
    change_done h = simp (← e, at_set, h)

-- ---- the hand-out
module _ (g : Plans) (f : ℕ) (w : Three) (turn k : ℕ) (e : k ≡ plans_for g) where
  pub hand_refused : (k ≡ 0 → ⊥) → ◌≡◌ {A = Handed} (record { number = k; packets = no_three; spares = 0; filler = 0; turn = 0 }) (plan_hand_for g f w turn)
  unfolding plan_hand_for
  hand_refused h = simp (← e, ne_eqb k 0 h)

  pub hand_done : k ≡ 0 → (t : Plans) → t ≡ in_force f g → (r : Handed) → r ≡ hand_for t.now w turn → r ≡ plan_hand_for g f w turn
  unfolding plan_hand_for
  hand_done z t et r er = simp (← e, z) (er ∙ ap (λ (x : Plans). hand_for x.now w turn) et)
