-- The same of a call whose refusals have a place: number and place tell two refusals apart. Assumes nothing.
use Prim.Native.Nat.{ℕ}
use mathlib.Core.Path.{◌≡◌, sym, ap, ap₂, ◌∙◌}
use Rattle.std.specs.Prelude.{Result, Ok, Err}
use Rattle.laws.specs.Settle.{Settles}
use Rattle.refusal.specs.declared.Refusal.{Refusal}
use Rattle.refusal.specs.declared.Refused.{Refused}
use Rattle.refusal.specs.Refusal.{number_of}
use Rattle.refusal.proofs.Numbers.{number_ne0, number_inj}

-- what a definition of answers has to say
pub record TellsPlace {A V : Type 0} (told : Result A Refused → V) : Type 0 where
  pub number : V → ℕ
  pub place : V → ℕ
  pub of_ok : (a : A) → number (told (Ok a)) ≡ 0
  pub of_err : (r : Refused) → number (told (Err r)) ≡ number_of r.why
  pub place_of_err : (r : Refused) → place (told (Err r)) ≡ r.place
  pub values : (a b : A) → told (Ok a) ≡ told (Ok b) → a ≡ b

refused_inj : (r s : Refused) → number_of r.why ≡ number_of s.why → r.place ≡ s.place → r ≡ s
refused_inj r s e f =
    let made : Refusal → ℕ → Refused = λ w p. record { why = w; place = p } in
    ap₂ made (number_inj r.why s.why e) f

pub placed_apart : {A V : Type 0} {told : Result A Refused → V} → TellsPlace told → (x y : Result A Refused) → told x ≡ told y → x ≡ y
placed_apart t (Ok a) (Ok b) e = ap Ok (t.values a b e)
placed_apart t (Ok a) (Err s) e = absurd (number_ne0 s.why (sym (t.of_err s) ∙ sym (ap t.number e) ∙ t.of_ok a))
placed_apart t (Err r) (Ok b) e = absurd (number_ne0 r.why (sym (t.of_err r) ∙ ap t.number e ∙ t.of_ok b))
placed_apart t (Err r) (Err s) e =
    ap Err (refused_inj r s (sym (t.of_err r) ∙ ap t.number e ∙ t.of_err s) (sym (t.place_of_err r) ∙ ap t.place e ∙ t.place_of_err s))

pub settled_placed : {I A V : Type 0} {told : Result A Refused → V} → TellsPlace told → (f : I → V)
    → Settles (λ (i : I) (o : Result A Refused). told o ≡ f i)
settled_placed t f i x y p q = placed_apart t x y (p ∙ sym q)
