-- `places::lengths` meets its contract. Assumes nothing.
use mathlib.Core.Path.{sym}
use Rattle.description.proofs.Tests.{sized}
use Rattle.places.proofs.Placing.{lengths_eight}
use Rattle.places.proofs.lengths.Goals as goal

pub returns : goal.returns
returns c = sym (lengths_eight c.args.d (search sized))
