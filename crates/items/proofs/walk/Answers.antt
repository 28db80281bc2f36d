-- `items::walk` meets its contract. Assumes nothing.
use borrow.Author.Rules.{rules}
use native.Mathlib.Omega.{arith}
use Rattle.items.proofs.Passes.{walking_first, walking_done, walking_more, walking_room}
use Rattle.items.proofs.walk.Goals as goal

pub loop-at-init : goal.loop-at-init
loop-at-init c = search walking_first

pub returns-then-n-eq0 : goal.returns-then-n-eq0
returns-then-n-eq0 c = let w = c.loop-at.invariant in let i = w.inside in let f = w.few in (search walking_done, i, omega arith)

pub overflow_add-at : goal.overflow_add-at
overflow_add-at c = let w = c.loop-at.invariant in let r = walking_room _ _ _ _ w c.size_at-n.ensures c.if-n-eq0.false in search rules

pub overflow_add-count : goal.overflow_add-count
overflow_add-count c = let w = c.loop-at.invariant in let r = walking_room _ _ _ _ w c.size_at-n.ensures c.if-n-eq0.false in search rules

pub loop-at-smaller : goal.loop-at-smaller
loop-at-smaller c = let w = c.loop-at.invariant in let r = walking_room _ _ _ _ w c.size_at-n.ensures c.if-n-eq0.false in omega arith

pub loop-at-preserved : goal.loop-at-preserved
loop-at-preserved c = search walking_more
