-- `saying::begin` meets its contract. Assumes nothing.
use borrow.Author.Rules.{rules}
use Rattle.saying.specs.Values.{begun}
use Rattle.saying.proofs.begin.Goals as goal

pub returns : goal.returns
unfolding begun
returns c = search rules
