-- `places::used` meets its contract. Assumes nothing.
use mathlib.Core.Path.{◌≡◌, ◌∙◌}
use native.Mathlib.Omega.{arith}
use lib.ListN.{length}
use Rattle.description.proofs.Tests.{sized}
use Rattle.places.proofs.Placing.{eight_long, used_is}
use Rattle.places.proofs.used.Goals as goal

pub total-requires : goal.total-requires
total-requires c = let n : length c.args.d.stream ≡ 4 = search sized in let h = eight_long c.args.d _ n c.lengths.ensures in omega arith

pub returns : goal.returns
returns c = (c.total.ensures.value ∙ used_is c.args.d _ c.lengths.ensures, c.total.ensures.most)
