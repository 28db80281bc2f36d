-- `packet::put_plain` meets its contract. Assumes nothing.
use mathlib.Core.Path.{refl}
use native.Mathlib.Omega.{arith}
use lib.ListN.{length-set}
use Rattle.packet.proofs.Writing.{plain_short, plain_full}
use Rattle.packet.proofs.put_plain.Goals as goal

pub bounds-out-1 : goal.bounds-out-1
bounds-out-1 c = simp length-set (omega arith)

pub returns-then-n-p : goal.returns-then-n-p
returns-then-n-p c = plain_short _ _ c.args.useful.now c.args.out.now c.requires.3 c.if-n-p.true _ _ _ refl c.copy.ensures c.clear.ensures

pub returns : goal.returns
returns c = plain_full _ _ c.args.useful.now c.args.out.now c.requires.3 c.requires.2 c.if-n-p.false _ c.copy-2.ensures
