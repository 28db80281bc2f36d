-- `summary_text::put_numbers` meets its contract. Assumes nothing.
use mathlib.Core.Path.{◌≡◌, refl, ap, ◌∙◌}
use Prim.Native.Nat.{ℕ}
use native.Mathlib.Omega.{arith}
use lib.ListN.{take, drop}
use Rattle.moves.proofs.Pieces.{puts_same}
use Rattle.summary_text.specs.Summary.{numbers_text}
use Rattle.summary_text.proofs.Numbers.{numbers_none, numbers_next}
use Rattle.summary_text.proofs.put_numbers.Goals as goal

pub loop-i-init : goal.loop-i-init
loop-i-init c = (omega arith, numbers_none _ _ _, refl)

pub put_times-next-requires : goal.put_times-next-requires
put_times-next-requires c = let m = c.loop-i.invariant.2 in omega arith

pub loop-i-preserved : goal.loop-i-preserved
loop-i-preserved c =
    let q = c.loop-i.invariant in (
      omega arith,
      numbers_next c.args.ns.now c.loop-i.i _ _ _ _ _ _ (omega arith) q.1 c.put_times-next.ensures.1,
      c.put_times-next.auto.out ∙ q.2,
    )

pub returns : goal.returns
returns c =
    let a = c.args in
    let k : c.loop-i.i ≡ 11 = omega arith in
    (omega arith, puts_same (ap (λ (j : ℕ). numbers_text 1 (take j (drop 1 a.ns.now))) k) c.loop-i.invariant.1)
