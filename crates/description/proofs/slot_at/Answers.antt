-- `description::slot_at` meets its contract. Assumes nothing.
use Rattle.description.proofs.Pieces.{slot_none, slot_some, lengths_are}
use Rattle.description.proofs.slot_at.Goals as goal

pub returns-then-v-at : goal.returns-then-v-at
returns-then-v-at c = slot_none _ _ _ (lengths_are _ _ _ c.default.ensures.0 c.default.ensures.1) c.if-v-at.true

pub returns : goal.returns
returns c = slot_some _ _ _ _ _ c.if-v-at.false c.from.ensures c.from-2.ensures c.from-3.ensures
