-- `mdi_spots::bad_length` meets its contract. Assumes nothing.
use borrow.Author.Rules.{rules}
use Rattle.mdi_spots.proofs.Ways.{length_at, by_rule}
use Rattle.mdi_spots.proofs.bad_length.Goals as goal

pub returns : goal.returns
returns c =
    length_at _ _ _ _ _ _ _ _ _ _ _ _ _ _ _ _ _ _ _ _ _ _ _
    c.spot.ensures c.spot-2.ensures c.spot-3.ensures c.spot-4.ensures c.spot-5.ensures c.spot-6.ensures c.spot-7.ensures c.spot-8.ensures c.spot-9.ensures c.spot-10.ensures c.spot-11.ensures
    (by_rule _ _ _ _ (search rules) c.is_wrong.ensures.2)
    (by_rule _ _ _ _ (search rules) c.is_wrong-2.ensures.2)
    (by_rule _ _ _ _ (search rules) c.is_wrong-3.ensures.2)
    (by_rule _ _ _ _ (search rules) c.is_wrong-4.ensures.2)
    (by_rule _ _ _ _ (search rules) c.is_wrong-5.ensures.2)
    (by_rule _ _ _ _ (search rules) c.is_wrong-6.ensures.2)
    (by_rule _ _ _ _ (search rules) c.is_wrong-7.ensures.2)
    (by_rule _ _ _ _ (search rules) c.is_wrong-8.ensures.2)
    (by_rule _ _ _ _ (search rules) c.is_wrong-9.ensures.2)
    (by_rule _ _ _ _ (search rules) c.is_wrong-10.ensures.2)
    (by_rule _ _ _ _ (search rules) c.is_wrong-11.ensures.2)
