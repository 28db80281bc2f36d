-- `repeats::first_again` meets its contract. Assumes nothing.
use Rattle.repeats.proofs.Names.{repeat_long, repeat_short}
use Rattle.repeats.proofs.first_again.Goals as goal

pub returns-then-packet-gt65528 : goal.returns-then-packet-gt65528
returns-then-packet-gt65528 c = search repeat_long

pub returns-in-Some : goal.returns-in-Some
returns-in-Some c = repeat_short _ _ c.if-packet-gt65528.false c.in-Some.ensures

pub returns-in-None : goal.returns-in-None
returns-in-None c = repeat_short _ _ c.if-packet-gt65528.false c.among_many.ensures
