-- A call that returns a `Result` promises what its answer says in 01's terms, by a definition `told`. Such a promise settles the answer: the
-- number tells a refusal from a success and from every other refusal, and the values tell two successes apart. Assumes nothing.
use Prim.Native.Nat.{ℕ}
use mathlib.Core.Path.{◌≡◌, refl, sym, ap, ap₂, ◌∙◌}
use Rattle.std.specs.Prelude.{Result, Ok, Err}
use Rattle.laws.specs.Settle.{Settles}
use Rattle.refusal.specs.declared.Refusal.{Refusal}
use Rattle.refusal.specs.Refusal.{number_of, number_in}
use Rattle.refusal.proofs.Numbers.{number_ne0, number_inj}

-- what a definition of answers has to say
pub record Tells {A V : Type 0} (told : Result A Refusal → V) : Type 0 where
  pub number : V → ℕ
  pub of_ok : (a : A) → number (told (Ok a)) ≡ 0
  pub of_err : (r : Refusal) → number (told (Err r)) ≡ number_of r
  pub values : (a b : A) → told (Ok a) ≡ told (Ok b) → a ≡ b

pub tells_apart : {A V : Type 0} {told : Result A Refusal → V} → Tells told → (x y : Result A Refusal) → told x ≡ told y → x ≡ y
tells_apart t (Ok a) (Ok b) e = ap Ok (t.values a b e)
tells_apart t (Ok a) (Err s) e = absurd (number_ne0 s (sym (t.of_err s) ∙ sym (ap t.number e) ∙ t.of_ok a))
tells_apart t (Err r) (Ok b) e = absurd (number_ne0 r (sym (t.of_err r) ∙ ap t.number e ∙ t.of_ok b))
tells_apart t (Err r) (Err s) e = ap Err (number_inj r s (sym (t.of_err r) ∙ ap t.number e ∙ t.of_err s))

-- the answer alone
pub settled_told : {I A V : Type 0} {told : Result A Refusal → V} → Tells told → (f : I → V)
    → Settles (λ (i : I) (o : Result A Refusal). told o ≡ f i)
settled_told t f i x y p q = tells_apart t x y (p ∙ sym q)

-- the answer, and what lent memory then holds
pub settled_told_both : {I A V M : Type 0} {told : Result A Refusal → V} → Tells told → (f : I → V) (g : I → M)
    → Settles (λ (i : I) (o : Result A Refusal × M). (told o.0 ≡ f i) × (o.1 ≡ g i))
settled_told_both t f g i x y p q = ap₂ (λ a m. (a, m)) (tells_apart t x.0 y.0 (p.0 ∙ sym q.0)) (p.1 ∙ sym q.1)

-- a call that gives no value: its number says all
pub number_tells : Tells {A = Unit {0}} {V = ℕ} number_in
number_tells = record { number = λ n. n; of_ok = λ a. refl; of_err = λ r. refl; values = λ a b e. refl }
