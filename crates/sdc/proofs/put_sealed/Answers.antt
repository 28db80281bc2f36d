-- `sdc::put_sealed` meets its contract. Assumes nothing.
use mathlib.Core.Path.{refl}
use native.Mathlib.Omega.{arith}
use Rattle.sdc.proofs.Writing.{plain_written, seal_written}
use Rattle.sdc.proofs.put_sealed.Goals as goal

pub returns : goal.returns
returns c =
    seal_written _ c.args.body.now c.args.out.now _ c.requires _ _ _ _ refl
    (plain_written _ c.args.body.now c.args.out.now _ (omega arith) _ c.copy.ensures) c.crc16-word.ensures c.write16.ensures.1
