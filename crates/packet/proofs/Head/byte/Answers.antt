-- `packet::Head::byte` meets its contract. Assumes nothing.
use native.Mathlib.Omega.{arith}
use Rattle.packet.specs.Packet.{head_of}
use Rattle.packet.proofs.Writing.{flag_is}
use Rattle.packet.proofs.Head.byte.Goals as goal

pub returns : goal.returns
unfolding head_of
returns c =
    let h = c.args.self in
    omega (arith, c.from.ensures, c.from-2.ensures, c.from-3.ensures, flag_is h.first, flag_is h.last, flag_is h.padded)
