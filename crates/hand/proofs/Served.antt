-- The hand-out of one frame: that it serves the queues as condition C asks (C1), and that its counts are those of its steps (the
-- first half of C2). Assumes nothing.
use Prim.Native.Nat.{ℕ, zero, suc, ◌+◌, ◌-◌, ◌%◌, ◌<◌, ◌≤◌, min}
use mathlib.Core.Path.{◌≡◌, refl, ap, ◌∙◌}
use mathlib.Core.Bool.{Bool, true, false}
use mathlib.Core.List.{List, [], ◌∷◌, ◌++◌, append-nil}
use lib.ListN.{length, length-append}
use native.Mathlib.Omega.{arith}
use lib.Dec.{ltb, eqb}
use borrow.Author.Tests.{ltb-true, ltb-false}
use Rattle.hand.specs.declared.Three.{Three}
use Rattle.hand.specs.declared.Plan.{Plan}
use Rattle.laws.specs.Pick.{pick}
use Rattle.hand.specs.Settings.{at, total}
use Rattle.hand.specs.Hand.{low, bump, free, give, given_to, turn_of, first_free, taker, give_one, takers, spread, shares_met, hand_out, count_of, plan_for, spare_ids}
use Rattle.hand.specs.Settings.{Allowed}
use Rattle.hand.specs.Served.{Served}
use Rattle.hand.specs.declared.Settings.{Settings}
use Rattle.hand.proofs.Steps.{count_append, takers_next, spread_next}

-- at most, for each queue
abbrev pub ◌⊑◌ : Three → Three → Type 0
x ⊑ y = (x.a ≤ y.a) × (x.b ≤ y.b) × (x.c ≤ y.c)

infix 50 ◌⊑◌
-- what holds at each queue holds at whatever `at` picks
pub each : (P : ℕ → ℕ → ℕ → ℕ → Type 0) (x y z u : Three) (i : ℕ) → P x.a y.a z.a u.a → P x.b y.b z.b u.b → P x.c y.c z.c u.c
    → P (at x i) (at y i) (at z i) (at u i)
each P x y z u i p q r = go (eqb i 0) (eqb i 1)
  where
    go : (s t : Bool) → P (pick s x.a (pick t x.b x.c)) (pick s y.a (pick t y.b y.c)) (pick s z.a (pick t z.b z.c)) (pick s u.a (pick t u.b u.c))
    go true t = p
    go false true = q
    go false false = r

pub bump_up : (t : Three) (i : ℕ) → t ⊑ bump t i
bump_up t i = go (eqb i 0) (eqb i 1)
  where
    go : (p q : Bool) → t ⊑ pick p (record { a = t.a + 1; b = t.b; c = t.c }) (pick q (record { a = t.a; b = t.b + 1; c = t.c }) (record { a = t.a; b = t.b; c = t.c + 1 }))
    go true q = omega arith
    go false true = omega arith
    go false false = omega arith

bump_total : (t : Three) (i : ℕ) → total (bump t i) ≡ total t + 1
bump_total t i = go (eqb i 0) (eqb i 1)
  where
    go : (p q : Bool) → total (pick p (record { a = t.a + 1; b = t.b; c = t.c }) (pick q (record { a = t.a; b = t.b + 1; c = t.c }) (record { a = t.a; b = t.b; c = t.c + 1 }))) ≡ total t + 1
    go true q = omega arith
    go false true = omega arith
    go false false = omega arith

bump_cap : (t lim : Three) (i : ℕ) → t ⊑ lim → at t i < at lim i → bump t i ⊑ lim
bump_cap t lim i h = go (eqb i 0) (eqb i 1)
  where
    go : (p q : Bool) → pick p t.a (pick q t.b t.c) < pick p lim.a (pick q lim.b lim.c)
        → pick p (record { a = t.a + 1; b = t.b; c = t.c }) (pick q (record { a = t.a; b = t.b + 1; c = t.c }) (record { a = t.a; b = t.b; c = t.c + 1 })) ⊑ lim
    go true q l = omega arith
    go false true l = omega arith
    go false false l = omega arith

-- what holds of the turn and the two after it holds of 0, 1 and 2
turns : (P : ℕ → Type 0) (i : ℕ) → i < 3 → P i → P ((i + 1) % 3) → P ((i + 2) % 3) → P 0 × P 1 × P 2
turns P zero h x y z = (x, y, z)
turns P (suc zero) h x y z = (z, x, y)
turns P (suc (suc zero)) h x y z = (y, z, x)
turns P (suc (suc (suc i))) h x y z = absurd (omega arith)

bump_at : (t : Three) (i j : ℕ) → i < 3 → j < 3 → at (bump t i) j ≡ at t j + pick (eqb j i) 1 0
bump_at t zero zero h k = omega arith
bump_at t zero (suc zero) h k = omega arith
bump_at t zero (suc (suc zero)) h k = omega arith
bump_at t (suc zero) zero h k = omega arith
bump_at t (suc zero) (suc zero) h k = omega arith
bump_at t (suc zero) (suc (suc zero)) h k = omega arith
bump_at t (suc (suc zero)) zero h k = omega arith
bump_at t (suc (suc zero)) (suc zero) h k = omega arith
bump_at t (suc (suc zero)) (suc (suc zero)) h k = omega arith
bump_at t (suc (suc (suc i))) j h k = absurd (omega arith)
bump_at t zero (suc (suc (suc j))) h k = absurd (omega arith)
bump_at t (suc zero) (suc (suc (suc j))) h k = absurd (omega arith)
bump_at t (suc (suc zero)) (suc (suc (suc j))) h k = absurd (omega arith)

-- one spare went to a queue below its cap, or every queue is at its cap
pub data Step (lim : Three) (g : Plan) : Plan → List ℕ → Type 0 where
  gave : (i : ℕ) → i < 3 → at g.packets i < at lim i → Step lim g (give g i) (i ∷ [])
  full : lim ⊑ g.packets → Step lim g g []

pub step : (lim : Three) (g : Plan) → Step lim g (give_one lim g) (taker lim g)
unfolding give_one given_to taker first_free free
step lim g = go (turn_of g) (omega arith) _ refl _ refl _ refl
  where
    go : (i : ℕ) → i < 3 → (p : Bool) → ltb (at g.packets i) (at lim i) ≡ p → (q : Bool) → ltb (at g.packets ((i + 1) % 3)) (at lim ((i + 1) % 3)) ≡ q
        → (r : Bool) → ltb (at g.packets ((i + 2) % 3)) (at lim ((i + 2) % 3)) ≡ r
        → Step lim g (given_to (pick p (i ∷ []) (pick q ((i + 1) % 3 ∷ []) (pick r ((i + 2) % 3 ∷ []) []))) g)
        (pick p (i ∷ []) (pick q ((i + 1) % 3 ∷ []) (pick r ((i + 2) % 3 ∷ []) [])))
    go i h true e q e' r e'' = gave i h (ltb-true _ _ e)
    go i h false e true e' r e'' = gave ((i + 1) % 3) (omega arith) (ltb-true _ _ e')
    go i h false e false e' true e'' = gave ((i + 2) % 3) (omega arith) (ltb-true _ _ e'')
    go i h false e false e' false e'' = full (turns (λ k. at lim k ≤ at g.packets k) i h (ltb-false _ _ e) (ltb-false _ _ e') (ltb-false _ _ e''))

-- after k spares at most, given to ids
record Spread (lim : Three) (g : Plan) (k : ℕ) (r : Plan) (ids : List ℕ) : Type 0 where
  given : (j : ℕ) → j < 3 → at r.packets j ≡ at g.packets j + count_of j ids
  number : total r.packets ≡ total g.packets + length ids
  up : g.packets ⊑ r.packets
  under : r.packets ⊑ lim
  sum : total r.packets ≤ total g.packets + k
  full : total r.packets < total g.packets + k → lim ⊑ r.packets

one_more : (lim : Three) (g r r' : Plan) (k : ℕ) (ids more : List ℕ) → Spread lim g k r ids → Step lim r r' more → Spread lim g (suc k) r' (ids ++ more)
unfolding give count_of
one_more lim g r r' k ids more s (gave i h3 h) =
    let u = bump_up r.packets i in
    let t = bump_total r.packets i in
    let f = bump_cap r.packets lim i s.under h in
    let l = length-append ids (i ∷ []) in
    record {
      given = λ j hj. omega (arith, bump_at r.packets i j h3 hj, s.given j hj, count_append j ids (i ∷ []));
      number = omega (arith, s.number);
      up = omega arith;
      under = f;
      sum = omega arith;
      full = λ l. let w : lim ⊑ r.packets = s.full (omega arith) in omega arith;
    }
one_more lim g r r' k ids more s (full w) =
    record {
      given = λ j hj. rw append-nil (s.given j hj);
      number = rw append-nil s.number;
      up = s.up;
      under = s.under;
      sum = omega arith;
      full = λ l. w;
    }

none_yet : (lim : Three) (g : Plan) → g.packets ⊑ lim → Spread lim g 0 (spread 0 lim g) (takers 0 lim g)
unfolding spread takers given_to count_of
none_yet lim g h =
    record { given = λ j hj. omega arith; number = omega arith; up = omega arith; under = h; sum = omega arith; full = λ l. absurd (omega arith) }

spreads : (lim : Three) (g : Plan) → g.packets ⊑ lim → (k : ℕ) → Spread lim g k (spread k lim g) (takers k lim g)
spreads lim g h zero = none_yet lim g h
spreads lim g h (suc k) =
    rw (spread_next k lim g, takers_next k lim g) (one_more lim g _ _ k _ _ (spreads lim g h k) (step lim (spread k lim g)))

min_l : (x y z : ℕ) → x ≤ min y z → x ≤ y
min_l x y z h = omega arith

min_r : (x y z : ℕ) → x ≤ min y z → x ≤ z
min_r x y z h = omega arith

within : (r t n : ℕ) → t ≤ n → r ≤ t + (n - t) → r ≤ n
within r t n h l = omega arith

-- ---- condition C, of one frame of n packets
pub served : (n : ℕ) (w s m : Three) (turn : ℕ) → total s ≤ n → s ⊑ m → Served n w s m (hand_out n w s m turn).packets
unfolding hand_out
served n w s m turn fits below =
    let g = shares_met s w turn in
    let r = spread (n - total (low s w)) (low w m) g in
    let k = spreads (low w m) g (omega arith) (n - total (low s w)) in
    let lo : total (low s w) ≤ n = omega arith in
    record {
      share = λ i. each (λ x y z u. min x y ≤ z) s w r.packets m i k.up.0 k.up.1 k.up.2;
      waiting = λ i. each (λ x y z u. z ≤ y) s w r.packets m i (min_l _ _ _ k.under.0) (min_l _ _ _ k.under.1) (min_l _ _ _ k.under.2);
      ceiling = λ i. each (λ x y z u. z ≤ u) s w r.packets m i (min_r _ _ _ k.under.0) (min_r _ _ _ k.under.1) (min_r _ _ _ k.under.2);
      whole = within _ _ _ lo k.sum;
      filler = λ l i. let f = k.full (omega arith) in each (λ x y z u. z ≡ min y u) s w r.packets m i (omega arith) (omega arith) (omega arith);
    }

-- C1: a frame with allowed settings serves as condition C asks
pub frame_served : (s : Settings) (w : Three) (turn : ℕ) → Allowed s → Served s.n w s.share s.ceiling (plan_for s w turn).packets
unfolding plan_for
frame_served s w turn k = served s.n w s.share s.ceiling turn k.shares (k.a.below, k.b.below, k.c.below)

-- C2, the counts: what each queue got is its share or what waited, and one for each step that named it; the spares are the steps
pub record Counted (s : Settings) (w : Three) (turn : ℕ) : Type 0 where
  pub each : (i : ℕ) → i < 3 → at (plan_for s w turn).packets i ≡ min (at s.share i) (at w i) + count_of i (spare_ids s w turn)
  pub all : total (plan_for s w turn).packets ≡ total (low s.share w) + length (spare_ids s w turn)

pub low_at : (x y : Three) (i : ℕ) → at (low x y) i ≡ min (at x i) (at y i)
low_at x y i = each (λ p q r u. r ≡ min p q) x y (low x y) x i refl refl refl

pub steps_counted : (s : Settings) (w : Three) (turn : ℕ) → Allowed s → Counted s w turn
unfolding plan_for spare_ids hand_out
steps_counted s w turn k =
    let g = shares_met s.share w turn in
    let r = spreads (low w s.ceiling) g (let a = k.a.below in let b = k.b.below in let c = k.c.below in omega arith) (s.n - total (low s.share w)) in
    record { each = λ i h. r.given i h ∙ ap (λ (x : ℕ). x + count_of i (takers (s.n - total (low s.share w)) (low w s.ceiling) g)) (low_at s.share w i); all = r.number }
