-- `walk::packet` meets its contract. Assumes nothing.
use Rattle.std.proofs.Common.{arith}
use Rattle.walk.proofs.Calls.{packet_none, packet_done}
use Rattle.walk.proofs.packet.Goals.{then-work-lt4-via-then-work-lt4, then-work-lt4-via-else-work-lt4+then-work-size}
use Rattle.walk.proofs.packet.Goals as goal

pub returns-then-work-lt4 : goal.returns-then-work-lt4
returns-then-work-lt4 c =
    packet_none _ c.args.size
    (elim c.then-work-lt4.branch [ then-work-lt4-via-then-work-lt4 w ↦ omega (arith, w.if-work-lt4) | then-work-lt4-via-else-work-lt4+then-work-size w ↦ omega (arith, w.if-work-lt4, w.if-work-size) ])

pub returns : goal.returns
returns c = search packet_done
