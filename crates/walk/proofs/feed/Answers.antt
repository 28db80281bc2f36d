-- `walk::feed` meets its contract. Assumes nothing.
use Rattle.walk.proofs.Calls.{feed_not, feed_done}
use Rattle.walk.proofs.feed.Goals as goal

pub returns-then-w-ne0 : goal.returns-then-w-ne0
returns-then-w-ne0 c = let both = feed_not _ _ _ c.if-w-ne0.true in record { answer = both.0; held = both.1 }

pub returns : goal.returns
returns c = let both = feed_done _ _ _ c.if-w-ne0.false _ _ (c.take_in.ensures.answer, c.take_in.ensures.held) in record { answer = both.0; held = both.1 }
