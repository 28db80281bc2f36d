-- `stamp_text::millis` meets its contract. Assumes nothing.
use Rattle.stamp_text.proofs.Digits.{millis_is}
use Rattle.stamp_text.proofs.millis.Goals as goal

pub returns : goal.returns
returns c = millis_is _ _ _ _ c.digit.ensures c.digit-2.ensures c.digit-3.ensures c.word.ensures
