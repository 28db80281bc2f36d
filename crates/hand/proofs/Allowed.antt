-- The settings' limits: what the check answers, and that it answers 0 exactly if 01's conditions hold. Assumes nothing.
use mathlib.Core.Path.{◌≡◌, refl, sym, ◌∙◌}
use mathlib.Core.List.{List, [], ◌∷◌}
use mathlib.Core.Bool.{Bool, true, false, ◌||◌, true≢false}
use Prim.Native.Nat.{ℕ, ◌+◌, ◌*◌, ◌/◌, ◌≤◌, ◌<◌}
use native.Mathlib.Nat.{div-le_self, div-add-mod', mod-lt, mul-le-mul_right}
use native.Mathlib.Omega.{arith}
use borrow.Author.Tests.{eq-eqb, ne_eqb, lt-ltb, le-ltb, eqb-false, ltb-false}
use lib.Dec.{ltb, eqb, lit<}
use Rattle.laws.specs.Pick.{pick}
use Rattle.laws.specs.Refuse.{Test, refused_with}
use Rattle.laws.proofs.Refuse.{free, accepted}
use Rattle.hand.specs.Settings.{total, unfit, settings_tests, settings_for, Limits, Allowed}
use Rattle.hand.specs.declared.Settings.{Settings}

-- ---- one queue's share and ceiling
module _ (n s m : ℕ) where
  limits : unfit n s m ≡ false → Limits n s m
  unfolding unfit
  limits = go (ltb m s) refl (eqb m 0) refl (ltb n m) refl
    where
      go : (b : Bool) → ltb m s ≡ b → (d : Bool) → eqb m 0 ≡ d → (f : Bool) → ltb n m ≡ f → b || d || f ≡ false → Limits n s m
      go true eb d ed f ef h = absurd (true≢false h)
      go false eb true ed f ef h = absurd (true≢false h)
      go false eb false ed true ef h = absurd (true≢false h)
      go false eb false ed false ef h =
          let z : m ≡ 0 → ⊥ = eqb-false m 0 ed in
          record { below = ltb-false m s eb; one = omega arith; most = ltb-false n m ef }

  limits_back : Limits n s m → unfit n s m ≡ false
  unfolding unfit
  limits_back l =
      let o = l.one in
      simp (le-ltb m s l.below, ne_eqb m 0 (λ z. omega arith), le-ltb n m l.most)

-- ---- n (p + 3) against 8,190, by a quotient
pub over : (p n : ℕ) → 8190 / (p + 3) < n → 8190 < n * (p + 3)
over p n h =
    let q = 8190 / (p + 3) in
    omega (arith, div-add-mod' 8190 (p + 3), mod-lt 8190 {m = p + 3} (omega arith), mul-le-mul_right (p + 3) h)

pub under : (p n : ℕ) → n ≤ 8190 / (p + 3) → n * (p + 3) ≤ 8190
under p n h = omega (arith, div-add-mod' 8190 (p + 3), mul-le-mul_right (p + 3) h)

-- ---- the answer of the check
pick_same : (b : Bool) (x : ℕ) → pick b x x ≡ x
pick_same true x = refl
pick_same false x = refl

module _ (s : Settings) where
  pub no_p : s.p ≡ 0 → 13 ≡ settings_for s
  unfolding settings_for settings_tests
  no_p h = simp (eq-eqb _ _ h)

  pub over_p : 255 < s.p → 13 ≡ settings_for s
  unfolding settings_for settings_tests
  over_p h = simp (lt-ltb _ _ h, pick_same)

  pub no_n : s.n ≡ 0 → 13 ≡ settings_for s
  unfolding settings_for settings_tests
  no_n h = simp (eq-eqb _ _ h, pick_same)

  pub over_n : 8190 / (s.p + 3) < s.n → 13 ≡ settings_for s
  unfolding settings_for settings_tests
  over_n h = simp (lt-ltb _ _ (over s.p s.n h), pick_same)

  pub unfit_a : (b : Bool) → b ≡ unfit s.n s.share.a s.ceiling.a → b ≡ true → 13 ≡ settings_for s
  unfolding settings_for settings_tests
  unfit_a b e h = simp (← e, h, pick_same)

  pub unfit_b : (b : Bool) → b ≡ unfit s.n s.share.b s.ceiling.b → b ≡ true → 13 ≡ settings_for s
  unfolding settings_for settings_tests
  unfit_b b e h = simp (← e, h, pick_same)

  pub unfit_c : (b : Bool) → b ≡ unfit s.n s.share.c s.ceiling.c → b ≡ true → 13 ≡ settings_for s
  unfolding settings_for settings_tests
  unfit_c b e h = simp (← e, h, pick_same)

  pub over_shares : s.n < s.share.a + s.share.b + s.share.c → 13 ≡ settings_for s
  unfolding settings_for settings_tests
  over_shares h = simp (lt-ltb _ _ h, pick_same)

  -- 01's conditions, and the check
  pub allowed : settings_for s ≡ 0 → Allowed s
  unfolding settings_for settings_tests
  allowed e =
      let t = free (settings_tests s) (lit< tt, (lit< tt, (lit< tt, (lit< tt, (lit< tt, (lit< tt, (lit< tt, (lit< tt, tt)))))))) e in
      let y : s.p ≡ 0 → ⊥ = eqb-false s.p 0 t.0 in
      let z : s.n ≡ 0 → ⊥ = eqb-false s.n 0 t.1.1.0 in
      record {
        low = omega arith;
        high = ltb-false 255 s.p t.1.0;
        some = omega arith;
        room = ltb-false 8190 (s.n * (s.p + 3)) t.1.1.1.0;
        a = limits _ _ _ t.1.1.1.1.0;
        b = limits _ _ _ t.1.1.1.1.1.0;
        c = limits _ _ _ t.1.1.1.1.1.1.0;
        shares = ltb-false s.n (total s.share) t.1.1.1.1.1.1.1.0;
      }

  pub allowed_back : Allowed s → settings_for s ≡ 0
  unfolding settings_for settings_tests
  allowed_back k =
      let l = k.low in
      let o = k.some in
      accepted (settings_tests s) (
        ne_eqb s.p 0 (λ z. omega arith),
        (
          le-ltb 255 s.p k.high,
          (
            ne_eqb s.n 0 (λ z. omega arith),
            (
              le-ltb 8190 (s.n * (s.p + 3)) k.room,
              (limits_back _ _ _ k.a, (limits_back _ _ _ k.b, (limits_back _ _ _ k.c, (le-ltb s.n (total s.share) k.shares, tt)))),
            ),
          ),
        ),
      )

-- ---- tests of one number, as those of settings: a refusal is that number
abbrev pub Alike : ℕ → List Test → Type 0
Alike n [] = Unit {0}
Alike n (t ∷ ts) = (t.number ≡ n) × Alike n ts

pub only : (n : ℕ) (ts : List Test) → Alike n ts → (refused_with ts ≡ 0 → ⊥) → refused_with ts ≡ n
only n [] a h = absurd (h refl)
only n (t ∷ ts) a h = go t.holds (only n ts a.1) h
  where
    go : (b : Bool) → ((refused_with ts ≡ 0 → ⊥) → refused_with ts ≡ n) → (pick b t.number (refused_with ts) ≡ 0 → ⊥) → pick b t.number (refused_with ts) ≡ n
    go true k h = a.0
    go false k h = k h

pub only_13 : (s : Settings) (k : ℕ) → k ≡ settings_for s → (k ≡ 0 → ⊥) → k ≡ 13
unfolding settings_for settings_tests
only_13 s k e h = e ∙ only 13 (settings_tests s) (refl, (refl, (refl, (refl, (refl, (refl, (refl, (refl, tt)))))))) (λ z. h (e ∙ z))

pub allowed_by : (s : Settings) (number : ℕ) → number ≡ settings_for s → number ≡ 0 → Allowed s
allowed_by s number e z = allowed s (sym e ∙ z)

-- shares that passed have a sum that fits
pub sum_fits : (n p room x y z l m k : ℕ) (a b c : Bool) → n ≤ room / (p + 3) → a ≡ unfit n x l → a ≡ false → b ≡ unfit n y m → b ≡ false
    → c ≡ unfit n z k → c ≡ false → x + y + z ≤ 3 * room
sum_fits n p room x y z l m k a b c h ea ha eb hb ec hc =
    let u = limits n x l (sym ea ∙ ha) in
    let v = limits n y m (sym eb ∙ hb) in
    let w = limits n z k (sym ec ∙ hc) in
    omega (arith, u.below, u.most, v.below, v.most, w.below, w.most, div-le_self room (p + 3))
