-- Packets of p = 4 on id 0, and where a unit passes 4,096 bytes. Assumes nothing.
use Prim.Native.Nat.{ℕ}
use mathlib.Core.Path.{◌≡◌, refl}
use mathlib.Core.List.{List, [], ◌∷◌}
use mathlib.Core.Bool.{true, false}
use Rattle.laws.specs.Big.{big_of, number_at}
use Rattle.crc.specs.Crc.{crc_of, feed, shift, bits_of, bits_of_all}
use Rattle.packet.specs.Packet.{padded, body_of, decode}
use Rattle.packet.specs.Calls.{wrong_word, wrong_count}
use Rattle.receiver.specs.declared.Link.{Link}
use Rattle.receiver.specs.declared.Receiver.{Receiver}
use Rattle.receiver.specs.Answer.{Nothing, Delivered}
use Rattle.receiver.specs.Link.{kept, null_of, base_of, joins, adds, completes, delivered, added, dropped, skipped, fate_of, link_with, link_after, broken_link, no_link}
use Rattle.receiver.specs.Receiver.{Stepped, fresh, broken, answer_by, answer_in, taken_in, step_tests, step_number, step_for}
use Rattle.receiver.specs.Bytes.{open_of, delivered_by, dropped_by, skipped_by, gone_of, dropped_bytes, skipped_bytes}

-- id 0 with its next index, and an open unit of so many bytes or none
abbrev pub open_with : ℕ → ℕ → Receiver
open_with index n = record { link = record { heard = true; index = index; begun = true; len = n } ∷ no_link ∷ no_link ∷ no_link ∷ [] }

abbrev shut_with : ℕ → Receiver
shut_with index = record { link = record { heard = true; index = index; begun = false; len = 0 } ∷ no_link ∷ no_link ∷ no_link ∷ [] }

abbrev pub gives : Receiver → List ℕ → Stepped
gives r s = step_for 4 r s 16384

-- a unit begins; the next packet but one comes (a break: dropped, and skipped); a new first flag; a null packet leaves the unit open
pub breaks :
    (gives fresh (0x80 ∷ 1 ∷ 2 ∷ 3 ∷ 4 ∷ 0xc1 ∷ 0x20 ∷ []) ≡ record { answer = Nothing; next = open_with 1 4 })
    × (gives (open_with 1 4) (0x4a ∷ 1 ∷ 9 ∷ 0 ∷ 0 ∷ 0x51 ∷ 0x10 ∷ []) ≡ record { answer = Nothing; next = shut_with 3 })
    × (gives (open_with 1 4) (0x82 ∷ 9 ∷ 10 ∷ 11 ∷ 12 ∷ 0xa1 ∷ 0x60 ∷ []) ≡ record { answer = Nothing; next = open_with 3 4 })
    × (gives (open_with 1 4) (0xc9 ∷ 0 ∷ 0 ∷ 0 ∷ 0 ∷ 0x75 ∷ 0x37 ∷ []) ≡ record { answer = Nothing; next = open_with 2 4 })
unfolding crc_of feed shift bits_of bits_of_all big_of number_at padded body_of decode wrong_word wrong_count kept null_of base_of joins adds completes fate_of link_with link_after broken_link fresh broken answer_by answer_in taken_in step_tests step_number step_for
breaks = (refl, refl, refl, refl)

-- padded, count 0, one flag each: a unit of no byte
pub empty_unit :
    (gives fresh (0x88 ∷ 0 ∷ 0 ∷ 0 ∷ 0 ∷ 0xce ∷ 0x0e ∷ []) ≡ record { answer = Nothing; next = open_with 1 0 })
    × (gives (open_with 1 0) (0x49 ∷ 0 ∷ 0 ∷ 0 ∷ 0 ∷ 0x57 ∷ 0xe7 ∷ []) ≡ record { answer = Delivered 0 0; next = shut_with 2 })
unfolding crc_of feed shift bits_of bits_of_all big_of number_at padded body_of decode wrong_word wrong_count kept null_of base_of joins adds completes fate_of link_with link_after broken_link fresh broken answer_by answer_in taken_in step_tests step_number step_for
empty_unit = (refl, refl)

-- 13, 17 and 1 in their order, before the check word is looked at: an index over 7 counts also where no packet has come
abbrev wrong_index : Receiver
wrong_index = record { link = no_link ∷ no_link ∷ no_link ∷ record { heard = false; index = 8; begun = false; len = 0 } ∷ [] }

pub refusals :
    (step_number 0 wrong_index [] 0 ≡ 13) × (step_number 4 wrong_index [] 0 ≡ 17) × (step_number 4 (open_with 1 4097) [] 0 ≡ 17) × (step_number 4 fresh [] 0 ≡ 1)
    × (step_number 4 fresh [] 16384 ≡ 1)
unfolding step_number step_tests broken broken_link fresh
refusals = (refl, refl, refl, refl, refl)

-- 4,090 bytes are open, and six or seven come
abbrev long : Link
long = record { heard = true; index = 1; begun = true; len = 4090 }

pub limit :
    (fate_of long 1 false false 6 ≡ added) × (fate_of long 1 false true 6 ≡ delivered) × (fate_of long 1 false true 7 ≡ dropped) × (fate_of long 2 false true 6 ≡ skipped)
    × (dropped_bytes long 1 false true 7 ≡ 4097) × (dropped_bytes long 1 false true 6 ≡ 0) × (dropped_bytes long 2 true true 6 ≡ 4090) × (skipped_bytes long 2 false true 6 ≡ 6)
unfolding kept null_of base_of joins adds completes fate_of open_of gone_of delivered_by dropped_by skipped_by dropped_bytes skipped_bytes
limit = (refl, refl, refl, refl, refl, refl, refl, refl)
