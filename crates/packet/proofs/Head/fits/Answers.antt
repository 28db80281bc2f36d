-- `packet::Head::fits` meets its contract. Assumes nothing.
use Rattle.packet.proofs.Writing.{no_p, over_p, over_n, over_id, over_index, no_room, all_right}
use Rattle.packet.proofs.Head.fits.Goals as goal
use Rattle.packet.proofs.Head.fits.Goals.{then-p-eq0-via-then-p-eq0, then-p-eq0-via-else-p-eq0+then-p-gt255, then-self-gt3-via-then-self-gt3, then-self-gt3-via-else-self-gt3+then-self-gt7}

pub returns-then-p-eq0 : goal.returns-then-p-eq0
returns-then-p-eq0 c =
    elim c.then-p-eq0.branch [
      | then-p-eq0-via-then-p-eq0 w ↦ no_p _ _ _ _ _ w.if-p-eq0.true
      | then-p-eq0-via-else-p-eq0+then-p-gt255 w ↦ over_p _ _ _ _ _ w.if-p-eq0.false w.if-p-gt255.true
    ]

pub returns-then-p-self : goal.returns-then-p-self
returns-then-p-self c = search over_n

pub returns-then-self-gt3 : goal.returns-then-self-gt3
returns-then-self-gt3 c =
    let a = c.if-p-eq0.false in
    let b = c.if-p-gt255.false in
    let n = c.if-p-self.false in
    elim c.then-self-gt3.branch [
      | then-self-gt3-via-then-self-gt3 w ↦ over_id _ _ _ _ _ a b n w.if-self-gt3.true
      | then-self-gt3-via-else-self-gt3+then-self-gt7 w ↦ over_index _ _ _ _ _ a b n w.if-self-gt3.false w.if-self-gt7.true
    ]

pub returns-then-room-p : goal.returns-then-room-p
returns-then-room-p c = search no_room

pub returns : goal.returns
returns c = search all_right
