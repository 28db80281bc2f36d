-- `repeats::insert` meets its contract. Assumes nothing.
use Rattle.repeats.proofs.Trees.{stored_first, stored_was, stored_new, low_slot}
use borrow.Author.Rules.{rules}
use Rattle.repeats.proofs.insert.Goals as goal

pub returns-then-n-eq0 : goal.returns-then-n-eq0
returns-then-n-eq0 c = stored_first _ _ _ _ c.requires.0 c.requires.3 c.if-n-eq0.true

pub returns-in-Ok : goal.returns-in-Ok
returns-in-Ok c = stored_was _ _ _ _ _ c.in-Ok.ensures

pub offset_bounds-kids-slot : goal.offset_bounds-kids-slot
offset_bounds-kids-slot c = let h = low_slot c.args.keys.now c.args.kids.now _ _ c.requires.3 c.if-n-eq0.false c.requires.0 _ c.in-Err.ensures c.requires.2 in search rules

pub bounds-kids-slot : goal.bounds-kids-slot
bounds-kids-slot c = let h = low_slot c.args.keys.now c.args.kids.now _ _ c.requires.3 c.if-n-eq0.false c.requires.0 _ c.in-Err.ensures c.requires.2 in search rules

pub returns-in-Err : goal.returns-in-Err
returns-in-Err c = stored_new c.args.keys.now c.args.kids.now _ _ c.requires.3 c.if-n-eq0.false c.requires.0 _ c.in-Err.ensures c.requires.2
