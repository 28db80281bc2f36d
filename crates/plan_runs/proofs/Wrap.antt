-- Counts that run on modulo 2^32: where the first c stands among them. Assumes nothing.
use Prim.Native.Nat.{ℕ, suc, ◌+◌, ◌%◌, ◌<◌, min}
use mathlib.Core.Path.{◌≡◌, refl, sym, ap, ◌∙◌}
use mathlib.Core.List.{List, [], ◌∷◌}
use mathlib.Core.Bool.{Bool, true, false}
use native.Mathlib.Omega.{arith}
use borrow.Author.Tests.{eqb-true, eqb-false}
use lib.Dec.{eqb}
use lib.ListN.{length, get_or}
use Rattle.laws.specs.Pick.{pick}
use Rattle.plan_runs.specs.Run.{first_of}
use Rattle.plan_runs.specs.Takeover.{frames_until}

here : (c f n : ℕ) → c < 4294967296 → c ≡ f → 0 ≡ min n (frames_until f c)
here c f n hc e = omega arith

there : (c f n : ℕ) → c < 4294967296 → f < 4294967296 → (c ≡ f → ⊥) → suc (min n (frames_until ((f + 1) % 4294967296) c)) ≡ min (suc n) (frames_until f c)
there c f n hc hf e = omega arith

next_count : (f i : ℕ) → (f + suc i) % 4294967296 ≡ ((f + 1) % 4294967296 + i) % 4294967296
next_count f i = omega arith

step : (c f x n r : ℕ) → c < 4294967296 → f < 4294967296 → x ≡ f → r ≡ min n (frames_until ((f + 1) % 4294967296) c)
    → pick (eqb c x) 0 (suc r) ≡ min (suc n) (frames_until f c)
step c f x n r hc hf ex ih = go (eqb c x) refl
  where
    go : (b : Bool) → eqb c x ≡ b → pick b 0 (suc r) ≡ min (suc n) (frames_until f c)
    go true e = here c f (suc n) hc (eqb-true c x e ∙ ex)
    go false e = ap suc ih ∙ there c f n hc hf (λ z. eqb-false c x e (z ∙ sym ex))

pub first_counted : (c f : ℕ) (fs : List ℕ) → c < 4294967296 → f < 4294967296
    → ((i : ℕ) → i < length fs → get_or fs i 0 ≡ (f + i) % 4294967296)
    → first_of c fs ≡ min (length fs) (frames_until f c)
unfolding first_of
first_counted c f [] hc hf k = omega arith
first_counted c f (x ∷ fs) hc hf k =
    let e : x ≡ (f + 0) % 4294967296 = k 0 (omega arith) in
    let ex : x ≡ f = omega arith in
    step c f x (length fs) (first_of c fs) hc hf ex
    (first_counted c ((f + 1) % 4294967296) fs hc (omega arith) (λ i h. k (suc i) (omega arith) ∙ next_count f i))
