-- `stamp_text::since` meets its contract. Assumes nothing.
use Rattle.stamp_text.proofs.Ways.{since_none, since_given}
use borrow.Author.Rules.{rules}
use Rattle.stamp_text.proofs.since.Goals as goal

pub returns-in-None : goal.returns-in-None
returns-in-None c = search since_none

pub returns-in-Some : goal.returns-in-Some
returns-in-Some c = search (since_given, rules)
