-- `repeats::store` meets its contract. Assumes nothing.
use Rattle.repeats.proofs.Names.{seeing_none, seen_all, seen_full, nearer, can_insert, seen_again, seeing_more}
use Rattle.items.proofs.Rule.{at_fits}
use borrow.Author.Rules.{rules}
use native.Mathlib.Omega.{arith}
use Prim.Native.Nat.{◌<◌}
use mathlib.Core.Path.{refl, ◌∙◌}
use Rattle.repeats.proofs.store.Goals as goal

pub loop-n-init : goal.loop-n-init
loop-n-init c = let p = c.requires in (seeing_none _ _ _ p.1 p.2, refl)

pub shape_of-keys-then-k-eq0 : goal.shape_of-keys-then-k-eq0
shape_of-keys-then-k-eq0 c = c.loop-n.invariant.0.keys_long

pub shape_of-kids-then-k-eq0 : goal.shape_of-kids-then-k-eq0
shape_of-kids-then-k-eq0 c = c.loop-n.invariant.1

pub returns-then-k-eq0 : goal.returns-then-k-eq0
returns-then-k-eq0 c =
    let a = c.args in
    seen_all a.s.now (λ j. omega (arith, c.shared_slice_known-1.given j)) _ _ _ _ _ _ c.loop-n.invariant.0 c.size_at-k.ensures c.if-k-eq0.true

pub shape_of-keys-then-n-keys : goal.shape_of-keys-then-n-keys
shape_of-keys-then-n-keys c = c.loop-n.invariant.0.keys_long

pub shape_of-kids-then-n-keys : goal.shape_of-kids-then-n-keys
shape_of-kids-then-n-keys c = c.loop-n.invariant.1

pub returns-then-n-keys : goal.returns-then-n-keys
returns-then-n-keys c =
    let a = c.args in
    seen_full a.s.now (λ j. omega (arith, c.shared_slice_known-1.given j)) _ _ _ _ _ _ c.loop-n.invariant.0 c.size_at-k.ensures c.if-k-eq0.false c.if-n-keys.true

pub insert-requires : goal.insert-requires
insert-requires c =
    let a = c.args in
    can_insert a.s.now (λ j. omega (arith, c.shared_slice_known-1.given j)) _ _ _ _ _ _ c.loop-n.invariant.0 c.size_at-k.ensures c.if-k-eq0.false _ c.read32.ensures c.requires.0 c.if-n-keys.false

pub shape_of-keys-then-insert : goal.shape_of-keys-then-insert
shape_of-keys-then-insert c =
    let a = c.args in
    c.insert.auto.keys ∙ c.loop-n.invariant.0.keys_long

pub shape_of-kids-then-insert : goal.shape_of-kids-then-insert
shape_of-kids-then-insert c =
    let a = c.args in
    c.insert.auto.kids ∙ c.loop-n.invariant.1

pub returns-then-insert : goal.returns-then-insert
returns-then-insert c =
    let a = c.args in
    seen_again a.s.now (λ j. omega (arith, c.shared_slice_known-1.given j)) _ _ _ _ _ _ c.loop-n.invariant.0 c.size_at-k.ensures c.if-k-eq0.false _ c.read32.ensures _ _ _ c.insert.ensures c.if-insert.true

pub overflow_add-n : goal.overflow_add-n
overflow_add-n c =
    let a = c.args in
    let g = can_insert a.s.now (λ j. omega (arith, c.shared_slice_known-1.given j)) _ _ _ _ _ _ c.loop-n.invariant.0 c.size_at-k.ensures c.if-k-eq0.false _ c.read32.ensures c.requires.0 c.if-n-keys.false in
    let h : c.loop-n.n < 8192 = g.1 in
    search rules

pub overflow_add-at : goal.overflow_add-at
overflow_add-at c =
    let a = c.args in
    let f = at_fits _ _ _ c.size_at-k.ensures c.if-k-eq0.false in
    search rules

pub loop-n-smaller : goal.loop-n-smaller
loop-n-smaller c =
    let a = c.args in
    nearer a.s.now (λ j. omega (arith, c.shared_slice_known-1.given j)) _ _ _ _ _ _ c.loop-n.invariant.0 c.size_at-k.ensures c.if-k-eq0.false

pub loop-n-preserved : goal.loop-n-preserved
loop-n-preserved c =
    let a = c.args in
    (seeing_more a.s.now (λ j. omega (arith, c.shared_slice_known-1.given j)) _ _ _ _ _ _ c.loop-n.invariant.0 c.size_at-k.ensures c.if-k-eq0.false _ c.read32.ensures _ _ _ c.insert.ensures c.if-insert.false c.if-n-keys.false c.insert.auto.keys c.insert.auto.kids, c.insert.auto.kids ∙ c.loop-n.invariant.1)
