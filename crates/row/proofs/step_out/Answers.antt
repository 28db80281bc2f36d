-- `row::step_out` meets its contract. Assumes nothing.
use Rattle.row.proofs.Rings.{ring_step}
use Rattle.row.proofs.step_out.Goals as goal

pub returns : goal.returns
returns c =
    let both = ring_step _ _ _ _ _ c.args.start c.args.o c.args.ring.now c.args.dst.now _ _ _ c.requires.0 c.requires.1 c.first_left-x.ensures c.requires.3 c.requires.4 c.requires.2
    c.from-w.ensures c.head_len-n.ensures.0 c.head_len-n.ensures.2 c.pop.ensures c.requires.5 c.place-from.ensures.0 c.write_from.ensures in record { value = both.0; dst_after = both.1 }
