-- `sender::shape` meets its contract. Assumes nothing.
use borrow.Author.Rules.{rules}
use Rattle.sender.proofs.shape.Goals as goal

pub returns : goal.returns
returns c =
    record {
      counts = search rules;
      eight_0 = c.known.ensures;
      eight_1 = c.known-2.ensures;
      eight_2 = c.known-3.ensures;
    }
