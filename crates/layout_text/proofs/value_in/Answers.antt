-- `layout_text::value_in` meets its contract. Assumes nothing.
use mathlib.Core.Path.{refl, ap, ◌∙◌}
use Rattle.layout_text.proofs.Ways.{value_is}
use Rattle.layout_text.proofs.value_in.Goals as goal

pub returns : goal.returns
returns c = ap (λ r. r.now) c.unwrap_or.ensures ∙ value_is c.args.input.now c.get.result _ refl c.get.ensures.lookup
