-- `saying::value` meets its contract. Assumes nothing.
use borrow.Author.Rules.{rules}
use Rattle.saying.specs.Values.{with}
use Rattle.saying.proofs.value.Goals as goal

pub returns : goal.returns
unfolding with
returns c = search rules
