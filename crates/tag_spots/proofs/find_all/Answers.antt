-- `tag_spots::find_all` meets its contract. Assumes nothing.
use Rattle.tag_spots.proofs.Walk.{left_starts, left_bits, found_starts, found_bits, walked_stop}
use Rattle.tag_spots.proofs.find_all.Goals as goal

pub returns-then-bits-starts : goal.returns-then-bits-starts
returns-then-bits-starts c =
    let t = c.args in
    let h = c.if-bits-starts.true in (
      walked_stop t.s.now _ c.walk-w.ensures.0,
      c.walk-w.ensures.1,
      left_starts t.s.now t.names.now t.slots.now t.starts.now t.bits.now h,
      left_bits t.s.now t.names.now t.slots.now t.starts.now t.bits.now h,
    )

pub returns : goal.returns
returns c =
    let t = c.args in
    let h = c.if-bits-starts.false in (
      c.note_all.ensures.0,
      c.note_all.ensures.1,
      found_starts t.s.now t.names.now t.slots.now t.starts.now t.bits.now h _ c.note_all.ensures.2,
      found_bits t.s.now t.names.now t.slots.now t.starts.now t.bits.now h _ c.note_all.ensures.3,
    )
