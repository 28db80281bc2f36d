-- `packet::put` meets its contract. Assumes nothing.
use Rattle.packet.proofs.Writing.{seal}
use Rattle.packet.proofs.put.Goals as goal

pub returns : goal.returns
returns c = seal _ _ c.args.useful.now c.args.out.now c.requires.3 c.requires.2 _ _ _ c.put_plain.ensures c.crc16-word.ensures c.write16.ensures.1
