-- `description::put_value` meets its contract. Assumes nothing.
use mathlib.Core.Path.{refl, sym, ◌∙◌}
use native.Mathlib.Omega.{arith}
use lib.ListN.{length-set}
use Rattle.laws.proofs.Written.{written_none}
use Rattle.description.specs.Bytes.{stream_bytes}
use Rattle.description.proofs.Writing.{stream_turn, value_written}
use Rattle.description.proofs.put_value.Goals as goal

pub loop-i-init : goal.loop-i-init
unfolding stream_bytes
loop-i-init c = (sym (written_none _ _), refl)

pub loop-i-preserved : goal.loop-i-preserved
loop-i-preserved c =
    let m = simp length-set at c.loop-i.invariant.1 in (
      stream_turn _ _ _ c.args.at _ c.loop-i.i _ c.loop-i-test.true (simp length-set (omega arith)) refl c.loop-i.invariant.0 c.put_lengths.ensures,
      c.put_lengths.auto.out ∙ c.loop-i.invariant.1,
    )

pub returns : goal.returns
returns c = value_written _ _ _ _ _ c.loop-i.i c.args.d c.requires.1 c.from.ensures c.from-2.ensures c.loop-i-test.false c.loop-i.invariant.0
