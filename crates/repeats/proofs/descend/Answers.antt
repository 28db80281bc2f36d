-- `repeats::descend` meets its contract. Assumes nothing.
use Rattle.repeats.proofs.Trees.{on_start, go_on, go_down, go_out}
use borrow.Author.Rules.{rules}
use native.Mathlib.Omega.{arith}
use mathlib.Core.Path.{refl}
use Rattle.repeats.proofs.descend.Goals as goal

pub loop-node-init : goal.loop-node-init
loop-node-init c = on_start _ _ _ _ c.requires.0

pub offset_bounds-keys-node : goal.offset_bounds-keys-node
offset_bounds-keys-node c = let h = c.loop-node.invariant.inside in search rules

pub bounds-keys-node : goal.bounds-keys-node
bounds-keys-node c = let h = c.loop-node.invariant.inside in omega arith

pub returns-then-keys-node : goal.returns-then-keys-node
returns-then-keys-node c = (c.loop-node.invariant.inside, c.if-keys-node.true)

pub overflow_mul-slot : goal.overflow_mul-slot
overflow_mul-slot c = let h = c.loop-node.invariant.inside in search rules

pub overflow_add-slot : goal.overflow_add-slot
overflow_add-slot c = let h = c.loop-node.invariant.inside in search rules

pub offset_bounds-kids-slot : goal.offset_bounds-kids-slot
offset_bounds-kids-slot c = let h = c.loop-node.invariant.inside in search rules

pub bounds-kids-slot : goal.bounds-kids-slot
bounds-kids-slot c = let h = c.loop-node.invariant.inside in omega arith

pub returns-then-next-eq0 : goal.returns-then-next-eq0
returns-then-next-eq0 c = go_out _ _ _ _ _ _ c.requires.3 c.loop-node.invariant c.if-keys-node.false _ refl c.if-next-eq0.true

pub loop-node-smaller : goal.loop-node-smaller
loop-node-smaller c = let h = go_down _ _ _ _ _ _ c.requires.3 c.loop-node.invariant c.if-keys-node.false _ refl c.if-next-eq0.false in omega arith

pub loop-node-preserved : goal.loop-node-preserved
loop-node-preserved c = go_on _ _ _ _ _ _ c.requires.3 c.loop-node.invariant c.if-keys-node.false _ refl c.if-next-eq0.false
