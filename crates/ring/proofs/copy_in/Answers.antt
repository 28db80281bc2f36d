-- `ring::copy_in` meets its contract. Assumes nothing.
use Rattle.ring.proofs.Calls.{in_far, in_long, in_one, in_two}
use Rattle.ring.proofs.copy_in.Goals as goal
use Rattle.ring.proofs.copy_in.Goals.{then-ring-at-via-then-ring-at, then-ring-at-via-else-ring-at+then-ring-src}

pub returns-then-ring-at : goal.returns-then-ring-at
returns-then-ring-at c =
    elim c.then-ring-at.branch [
      | then-ring-at-via-then-ring-at w ↦ in_far _ _ _ w.if-ring-at.true
      | then-ring-at-via-else-ring-at+then-ring-src w ↦ in_long _ _ _ w.if-ring-src.true
    ]

pub returns-then-src-room : goal.returns-then-src-room
returns-then-src-room c = in_one _ _ _ c.if-ring-at.false c.if-ring-src.false _ c.if-src-room.true c.copy.ensures

pub returns-else-src-room : goal.returns-else-src-room
returns-else-src-room c =
    in_two _ _ _ c.if-ring-at.false c.if-ring-src.false _ _ _ _ c.if-src-room.false c.split_at.ensures.front c.split_at.ensures.back
    c.copy-else-src-room.ensures c.copy-else-src-room-2.ensures
