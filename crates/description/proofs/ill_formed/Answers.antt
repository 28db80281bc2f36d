-- `description::ill_formed` meets its contract: level A is looked at first, and the parts A only where it is not 0. Assumes nothing.
use mathlib.Core.Bool.{Bool, true, false, ◌&&◌}
use mathlib.Core.Path.{◌≡◌, refl, ◌∙◌}
use borrow.Author.Tests.{eq-eqb, ne_eqb}
use Rattle.description.specs.WellFormed.{wrong_level, ill_formed}
use Rattle.description.proofs.ill_formed.Goals.{then-d-ne0, else-d-ne0}
use Rattle.description.proofs.ill_formed.Goals as goal

with_true : (q : Bool) → q ≡ (q && true)
with_true true = refl
with_true false = refl

with_false : (q : Bool) → false ≡ (q && false)
with_false true = refl
with_false false = refl

pub returns : goal.returns
unfolding ill_formed
returns c =
    let e : c.if-d-ne0.result ≡ wrong_level c.args.d =
    elim c.if-d-ne0.branch [
      | then-d-ne0 w ↦ w.result-is ∙ w.is_without_a.ensures ∙ rw (ne_eqb c.args.d.level.a 0 w.if-d-ne0.true) (with_true _)
      | else-d-ne0 w ↦ w.result-is ∙ rw (eq-eqb c.args.d.level.a 0 w.if-d-ne0.false) (with_false _)
    ]
    in
    rw (c.has_empty.ensures, c.has_more.ensures, e) refl
