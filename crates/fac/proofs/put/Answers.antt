-- `fac::put` meets its contract. Assumes nothing.
use Rattle.fac.proofs.Ways.{two_halves, sealed_on}
use Rattle.fac.proofs.put.Goals as goal

pub returns : goal.returns
returns c = sealed_on c.args.f c.args.out.now _ _ _ c.requires.2 (two_halves c.args.f _ _ c.channel_bits.ensures.0 c.service_bits.ensures.0) c.write64.ensures.1 c.crc8.ensures
