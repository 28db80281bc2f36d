-- `row::write_row` meets its contract. Assumes nothing.
use Prim.Native.Nat.{◌+◌, ◌-◌}
use native.Mathlib.Omega.{arith}
use borrow.Author.Rules.{rules}
use Rattle.row.proofs.Steps.{writing_first, writing_again, writing_done, next_in_law}
use Rattle.row.proofs.Rings.{whole_in, whole_out}
use Rattle.row.proofs.write_row.Goals as goal

pub loop-init : goal.loop-init
loop-init c = writing_first _ _ _ _ _ _ _ (omega arith) (whole_in _ c.args.o c.args.start c.args.ring.now c.requires.0)

pub overflow_add-at : goal.overflow_add-at
overflow_add-at c = omega (arith, next_in_law _ _ _ _ _ _ _ _ _ _ _ c.loop.invariant c.loop-test.true c.requires.5)

pub slice_bounds-step_out-end : goal.slice_bounds-step_out-end
slice_bounds-step_out-end c = next_in_law _ _ _ _ _ _ _ _ _ _ _ c.loop.invariant c.loop-test.true c.requires.5

pub step_out-r-requires : goal.step_out-r-requires
step_out-r-requires c = (whole_out _ _ c.args.start c.args.ring.now c.loop.invariant.whole, c.requires.1, c.requires.2, c.requires.3, c.requires.4, search rules)

pub overflow_add-at-in-loop : goal.overflow_add-at-in-loop
overflow_add-at-in-loop c = omega (arith, next_in_law _ _ _ _ _ _ _ _ _ _ _ c.loop.invariant c.loop-test.true c.requires.5)

pub loop-preserved : goal.loop-preserved
loop-preserved c =
    let at = c.loop.at in
    let w = c.from-w.result + 3 in
    writing_again _ _ _ _ _ _ _ _ _ _ _ c.loop.invariant (at + w - at) _ _ c.requires.3 c.loop-test.true c.requires.5 (omega arith)
    c.step_out-r.ensures.dst_after c.step_out-r.ensures.value

pub returns : goal.returns
returns c = let both = writing_done _ _ _ _ _ _ _ _ _ _ _ c.loop.invariant c.loop-test.false in record { value = both.0; dst_after = both.1 }
