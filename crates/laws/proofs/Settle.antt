-- A promise that says of the outcome what it is, by an equation to a definition, settles it. One law for every call. Assumes nothing.
use mathlib.Core.Path.{◌≡◌, sym, ap₂, ◌∙◌}
use Rattle.laws.specs.Settle.{Settles}

-- the answer alone
pub settled : {I O : Type 0} (f : I → O) → Settles (λ (i : I) (o : O). o ≡ f i)
settled f i x y p q = p ∙ sym q

-- the answer, and what lent memory then holds
pub settled_both : {I A M : Type 0} (f : I → A) (g : I → M) → Settles (λ (i : I) (o : A × M). (o.0 ≡ f i) × (o.1 ≡ g i))
settled_both f g i x y p q = ap₂ (λ a m. (a, m)) (p.0 ∙ sym q.0) (p.1 ∙ sym q.1)
