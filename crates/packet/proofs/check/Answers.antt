-- `packet::check` meets its contract. Assumes nothing.
use Rattle.packet.proofs.Checks.{p_zero, p_over, other_length, word_wrong, full_right, count_over, count_right}
use Rattle.packet.proofs.check.Goals as goal
use Rattle.packet.proofs.check.Goals.{then-p-eq0-via-then-p-eq0, then-p-eq0-via-else-p-eq0+then-p-gt255, else-is_padded-via-then-is_padded+else-p-from, else-is_padded-via-else-is_padded}

pub returns-then-p-eq0 : goal.returns-then-p-eq0
returns-then-p-eq0 c =
    elim c.then-p-eq0.branch [
      | then-p-eq0-via-then-p-eq0 w ↦ p_zero _ _ w.if-p-eq0.true
      | then-p-eq0-via-else-p-eq0+then-p-gt255 w ↦ p_over _ _ w.if-p-eq0.false w.if-p-gt255.true
    ]

pub returns-then-bytes-p : goal.returns-then-bytes-p
returns-then-bytes-p c = other_length _ _ c.if-p-eq0.false c.if-p-gt255.false c.if-bytes-p.true

pub returns-then-read16-crc16 : goal.returns-then-read16-crc16
returns-then-read16-crc16 c = word_wrong _ _ c.if-p-eq0.false c.if-p-gt255.false c.if-bytes-p.false _ _ c.read16.ensures c.crc16.ensures c.if-read16-crc16.true

pub returns-then-p-from : goal.returns-then-p-from
returns-then-p-from c = count_over _ _ c.if-p-eq0.false c.if-p-gt255.false c.if-bytes-p.false _ _ c.read16.ensures c.crc16.ensures c.if-read16-crc16.false _ c.is_padded.ensures _ c.from.ensures c.if-is_padded.true c.if-p-from.true

pub returns : goal.returns
returns c =
    elim c.else-is_padded.branch [
      | else-is_padded-via-then-is_padded+else-p-from w ↦ count_right _ _ c.if-p-eq0.false c.if-p-gt255.false c.if-bytes-p.false _ _ c.read16.ensures c.crc16.ensures c.if-read16-crc16.false _ c.is_padded.ensures _ w.from.ensures w.if-is_padded.true w.if-p-from.false
      | else-is_padded-via-else-is_padded w ↦ full_right _ _ c.if-p-eq0.false c.if-p-gt255.false c.if-bytes-p.false _ _ c.read16.ensures c.crc16.ensures c.if-read16-crc16.false _ c.is_padded.ensures w.if-is_padded.false
    ]
