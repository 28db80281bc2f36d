-- `recording::start` meets its contract. Assumes nothing.
use mathlib.Core.Path.{sym}
use borrow.Author.Tests.{eqb-true, eqb-false}
use Rattle.recording.proofs.Answers.{start_none, start_done}
use Rattle.recording.proofs.start.Goals as goal

pub returns-then-is_empty : goal.returns-then-is_empty
returns-then-is_empty c = let both = start_none _ (eqb-true _ _ (sym c.if-is_empty.ensures)) in record { answer = both.0; memory = both.1 }

pub returns : goal.returns
returns c = let both = start_done _ (eqb-false _ _ (sym c.if-is_empty.ensures)) in record { answer = both.0; memory = both.1 }
