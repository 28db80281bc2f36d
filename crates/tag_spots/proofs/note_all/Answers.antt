-- `tag_spots::note_all` meets its contract. Assumes nothing.
use Rattle.items.proofs.Rule.{at_fits}
use Rattle.tag_spots.proofs.Walk.{walking_first, same_starts, same_bits, walking_more}
use Rattle.tag_spots.proofs.Pass.{passing_done}
use mathlib.Core.Path.{sym, ◌∙◌}
use native.Mathlib.Omega.{arith}
use borrow.Author.Rules.{rules}
use Rattle.tag_spots.proofs.note_all.Goals as goal

pub loop-at-init : goal.loop-at-init
loop-at-init c = walking_first _ _ _ _ _ c.requires

pub shape_of-starts-then-n-eq0 : goal.shape_of-starts-then-n-eq0
shape_of-starts-then-n-eq0 c = same_starts c.args.s.now c.args.names.now c.args.slots.now c.args.starts.now c.args.bits.now _ _ _ c.loop-at.invariant

pub shape_of-bits-then-n-eq0 : goal.shape_of-bits-then-n-eq0
shape_of-bits-then-n-eq0 c = same_bits c.args.s.now c.args.names.now c.args.slots.now c.args.starts.now c.args.bits.now _ _ _ c.loop-at.invariant ∙ same_starts c.args.s.now c.args.names.now c.args.slots.now c.args.starts.now c.args.bits.now _ _ _ c.loop-at.invariant ∙ sym c.requires

pub returns-then-n-eq0 : goal.returns-then-n-eq0
returns-then-n-eq0 c = passing_done c.args.s.now _ c.args.starts.now c.args.bits.now _ _ _ _ c.loop-at.invariant c.size_at-n.ensures c.if-n-eq0.true

pub overflow_add-at : goal.overflow_add-at
overflow_add-at c = let f = at_fits _ _ _ c.size_at-n.ensures c.if-n-eq0.false in search rules

pub overflow_add-at-in-loop-at : goal.overflow_add-at-in-loop-at
overflow_add-at-in-loop-at c = let f = at_fits _ _ _ c.size_at-n.ensures c.if-n-eq0.false in search rules

pub note-requires : goal.note-requires
note-requires c = same_bits c.args.s.now c.args.names.now c.args.slots.now c.args.starts.now c.args.bits.now _ _ _ c.loop-at.invariant

pub overflow_add-at-in-loop-at-2 : goal.overflow_add-at-in-loop-at-2
overflow_add-at-in-loop-at-2 c =
    let f = at_fits _ _ _ c.size_at-n.ensures c.if-n-eq0.false in
    search rules

pub loop-at-smaller : goal.loop-at-smaller
loop-at-smaller c =
    let f = at_fits _ _ _ c.size_at-n.ensures c.if-n-eq0.false in
    omega arith

pub loop-at-preserved : goal.loop-at-preserved
loop-at-preserved c = walking_more c.args.s.now c.args.names.now c.args.slots.now c.args.starts.now c.args.bits.now _ _ _ c.loop-at.invariant _ c.size_at-n.ensures c.if-n-eq0.false _ _ c.read32-key.ensures c.read32-size.ensures _ _ c.note.ensures
