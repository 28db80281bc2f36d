-- `sender::Sender::row_at` meets its contract. Assumes nothing.
use mathlib.Core.Path.{refl}
use Prim.Native.Nat.{◌+◌, ◌-◌, ◌*◌}
use native.Mathlib.Omega.{arith}
use Rattle.sender.proofs.Framing.{row_at_is}
use Rattle.sender.proofs.Sender.row_at.Goals as goal

pub returns : goal.returns
returns c =
    let b = c.args.id * 4096 in
    let both = row_at_is _ _ _ _ _ c.args.store.now c.args.out.now _ (b + 4096 - b) _ _ c.requires.0 c.requires.1 c.requires.2 (omega arith) refl refl _ _ c.row.ensures.value
    c.row.ensures.dst_after in record { value = both.0; out_after = both.1 }
