-- The number given is the least whose condition holds; 0 exactly if none holds. Assumes nothing.
use Prim.Native.Nat.{ℕ, ◌<◌, ◌≤◌}
use mathlib.Core.Bool.{Bool, true, false}
use mathlib.Core.Path.{◌≡◌, refl}
use mathlib.Core.List.{List, [], ◌∷◌}
use mathlib.Core.Logic.{inl, inr}
use native.Mathlib.Nat.{le_refl}
use native.Mathlib.Omega.{arith}
use Rattle.laws.specs.Refuse.{Test, refused_with, refused_at, Rising, Real, Free, Among}
use Rattle.laws.specs.Pick.{pick}

pub real : (k : ℕ) (ts : List Test) → Rising k ts → Real ts
real k [] r = tt
real k (t ∷ ts) r = (let h = r.0 in omega arith, real t.number ts r.1)

-- number 0: no test holds
pub free : (ts : List Test) → Real ts → refused_with ts ≡ 0 → Free ts
free [] r e = tt
free (t ∷ ts) r e = go t.holds refl e (free ts r.1)
  where
    go : (b : Bool) → t.holds ≡ b → pick b t.number (refused_with ts) ≡ 0 → (refused_with ts ≡ 0 → Free ts) → Free (t ∷ ts)
    go true f e ih = absurd (let h = r.0 in omega arith)
    go false f e ih = (f, ih e)

-- and the other way
pub accepted : (ts : List Test) → Free ts → refused_with ts ≡ 0
accepted [] f = refl
accepted (t ∷ ts) f = rw f.0 (accepted ts f.1)

pub no_place : (ts : List Test) → Free ts → refused_at ts ≡ 0
no_place [] f = refl
no_place (t ∷ ts) f = rw f.0 (no_place ts f.1)

above : (k : ℕ) (ts : List Test) → Rising k ts → (t : Test) → Among t ts → k < t.number
above k [] r t a = absurd a
above k (u ∷ ts) r t (inl e) = rw e r.0
above k (u ∷ ts) r t (inr a) = let h = above u.number ts r.1 t a in let g = r.0 in omega arith

-- no test with a lower number holds
pub least : (k : ℕ) (ts : List Test) → Rising k ts → (t : Test) → Among t ts → t.holds ≡ true → refused_with ts ≤ t.number
least k [] r t a h = absurd a
least k (u ∷ ts) r t (inl e) h = let f : u.holds ≡ true = cc in rw (f, e) (le_refl u.number)
least k (u ∷ ts) r t (inr a) h = go u.holds (least u.number ts r.1 t a h)
  where
    go : (b : Bool) → refused_with ts ≤ t.number → pick b u.number (refused_with ts) ≤ t.number
    go true ih = let g = above u.number ts r.1 t a in omega arith
    go false ih = ih

-- the test that gave number and place
pub record Given (ts : List Test) : Type 0 where
  pub by : Test
  pub among : Among by ts
  pub holds : by.holds ≡ true
  pub number : by.number ≡ refused_with ts
  pub place : by.place ≡ refused_at ts

pub given : (ts : List Test) → (refused_with ts ≡ 0 → ⊥) → Given ts
given [] n = absurd (n refl)
given (t ∷ ts) n = go t.holds refl (given ts)
  where
    more : Given ts → t.holds ≡ false → Given (t ∷ ts)
    more g e = record { by = g.by; among = inr g.among; holds = g.holds; number = rw e g.number; place = rw e g.place }

    go : (b : Bool) → t.holds ≡ b → ((refused_with ts ≡ 0 → ⊥) → Given ts) → Given (t ∷ ts)
    go true e ih = record { by = t; among = inl refl; holds = e; number = rw e; place = rw e }
    go false e ih = more (ih (λ z. n (rw e z))) e
