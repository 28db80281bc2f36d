-- Six packets of p = 4, by computation: a unit begins on id 0 and is dropped by an index break, and the packet after the break is skipped; a unit of
-- two packets is delivered; a unit of id 1 stays open behind a null packet. Assumes nothing.
use Prim.Native.Nat.{ℕ}
use mathlib.Core.Path.{◌≡◌, refl}
use mathlib.Core.List.{List, [], ◌∷◌}
use Rattle.laws.specs.Big.{big_of, number_at}
use Rattle.crc.specs.Crc.{crc_of, feed, shift, bits_of, bits_of_all}
use Rattle.packet.specs.Packet.{padded, body_of, decode}
use Rattle.packet.specs.Calls.{wrong_word, wrong_count}
use Rattle.receiver.specs.Link.{kept, null_of, base_of, joins, adds, completes, fate_of, link_with, link_after, broken_link}
use Rattle.receiver.specs.Receiver.{fresh, broken, answer_by, answer_in, taken_in, step_tests, step_number, step_for}
use Rattle.receiver.specs.Bytes.{open_of, dropped_by, skipped_by, gone_of, dropped_bytes, skipped_bytes}
use Rattle.receiver.specs.Dropped.{dropped_in, dropped_for, told_for}
use Rattle.receiver.specs.Skipped.{skipped_in, skipped_for}
use Rattle.receiver.specs.Line.{grown, line_after, line_through}
use Rattle.receiver.specs.Run.{Input}
use Rattle.balance.specs.History.{taken_at, useful_at, length_by, delivered_at, dropped_at, skipped_at, sum_of, gather_of, of_four, open_over}
use Rattle.balance.specs.Balance.{all_ids}

abbrev of : List ℕ → Input
of s = record { p = 4; packet = s; room = 16384 }

abbrev six : List Input
six =
    of (0x80 ∷ 1 ∷ 2 ∷ 3 ∷ 4 ∷ 0xc1 ∷ 0x20 ∷ []) ∷ of (0x02 ∷ 5 ∷ 6 ∷ 7 ∷ 8 ∷ 0xbc ∷ 0x0a ∷ []) ∷ of (0x8b ∷ 3 ∷ 1 ∷ 2 ∷ 3 ∷ 0xda ∷ 0x31 ∷ [])
    ∷ of (0x4c ∷ 1 ∷ 4 ∷ 0 ∷ 0 ∷ 0xde ∷ 0xc4 ∷ []) ∷ of (0x90 ∷ 1 ∷ 2 ∷ 3 ∷ 4 ∷ 0xc5 ∷ 0x7a ∷ []) ∷ of (0xd9 ∷ 0 ∷ 0 ∷ 0 ∷ 0 ∷ 0x71 ∷ 0x6d ∷ []) ∷ []

pub sixteen :
    (sum_of (useful_at all_ids) six fresh ≡ 16) × (sum_of (delivered_at all_ids) six fresh ≡ 4) × (sum_of (dropped_at all_ids) six fresh ≡ 4)
    × (open_over all_ids six fresh ≡ 4) × (sum_of (skipped_at all_ids) six fresh ≡ 4)
unfolding crc_of feed shift bits_of bits_of_all big_of number_at padded body_of decode wrong_word wrong_count kept null_of base_of joins adds completes fate_of link_with link_after
    broken_link fresh broken answer_by answer_in taken_in step_tests step_number step_for open_of dropped_by skipped_by gone_of dropped_bytes skipped_bytes dropped_in dropped_for told_for
    skipped_in skipped_for grown line_after line_through taken_at useful_at length_by delivered_at dropped_at skipped_at sum_of gather_of of_four open_over
sixteen = (refl, refl, refl, refl, refl)
