-- `sender::put_in` meets its contract. Assumes nothing.
use mathlib.Core.Path.{refl}
use Prim.Native.Nat.{◌+◌, ◌-◌, ◌*◌}
use native.Mathlib.Omega.{arith}
use Rattle.sender.proofs.Entering.{put_is}
use Rattle.sender.proofs.put_in.Goals as goal

pub returns : goal.returns
returns c =
    let a = c.args in
    let b = a.id * 4096 in
    put_is a.id a.at b (b + 4096 - b) a.unit.now a.store.now _ c.requires.0 c.requires.1 c.requires.2 c.requires.3 refl (omega arith) c.copy_in.ensures
