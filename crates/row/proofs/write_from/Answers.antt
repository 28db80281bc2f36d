-- `row::write_from` meets its contract. Assumes nothing.
use mathlib.Core.Path.{ap, ◌∙◌}
use Prim.Native.Nat.{◌+◌, ◌-◌}
use native.Mathlib.Omega.{arith}
use lib.ListN.{replicate}
use Rattle.packet.specs.Packet.{packet_of}
use Rattle.packet.specs.Calls.{out_for}
use Rattle.row.proofs.Rings.{straight, gathered}
use Rattle.row.proofs.write_from.Goals as goal

pub returns-then-n-ring : goal.returns-then-n-ring
returns-then-n-ring c =
    let a = c.args in
    c.write.ensures.memory
    ∙ ap (λ b. out_for a.p (packet_of a.first a.last a.id a.index b) a.dst.now)
    (straight a.ring.now a.at a.n (a.at + a.n - a.at) c.if-n-ring.true (omega arith))

pub returns : goal.returns
returns c =
    let a = c.args in
    c.write-2.ensures.memory
    ∙ ap (λ l. out_for a.p (packet_of a.first a.last a.id a.index l) a.dst.now)
    (gathered a.ring.now (replicate 255 0) _ a.at a.n (a.n - 0) c.requires.0 c.requires.1 c.requires.2 c.copy_out.ensures (omega arith))
