-- `Answer::from` meets its contract: written out, so that an edit of it is refused at the fact that it misses. Assumes nothing.
use Rattle.std.proofs.Common.{refl}
use Rattle.mdi.proofs.AnswerFromResultRecordRefused.from.Goals as goal

pub returns-in-Err : goal.returns-in-Err
returns-in-Err c = rw (c.in-Err.is, c.number.ensures, c.none.ensures) refl
