-- `description::rest` meets its contract. Assumes nothing.
use mathlib.Core.Path.{refl, ap, ◌∙◌}
use Rattle.description.proofs.Ways.{rest_is}
use Rattle.description.proofs.rest.Goals as goal

pub returns : goal.returns
returns c = ap (λ r. r.now) c.unwrap_or.ensures ∙ rest_is c.args.s.now c.get.result _ refl c.get.ensures.lookup
