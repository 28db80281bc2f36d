-- A run that delivers, by computation: a unit of six bytes for queue 1, p = 4, three packets a frame; then with a packet lost. Assumes nothing.
use mathlib.Core.Path.{◌≡◌, refl}
use mathlib.Core.List.{List, [], ◌∷◌}
use mathlib.Core.Bool.{true, false}
use Prim.Native.Nat.{ℕ}
use lib.ListN.{replicate}
use Rattle.laws.specs.Big.{bytes_of, big_of, number_at}
use Rattle.laws.specs.Written.{written}
use Rattle.crc.specs.Crc.{shift, feed, bits_of, bits_of_all, crc_of}
use Rattle.hand.specs.Settings.{unfit, settings_tests, settings_for}
use Rattle.hand.specs.Hand.{give, free, given_to, first_free, taker, give_one, takers, spread, hand_out, plan_for, hand_for}
use Rattle.hand.specs.declared.Settings.{Settings}
use Rattle.packet.specs.Packet.{packet_of, head_of, padded, data_of, plain_of, sealed, encode, body_of, decode}
use Rattle.packet.specs.Calls.{wrong_word, wrong_count, tests_for, check_for}
use Rattle.queue.specs.Queue.{add_up, packets, unsent, waiting, lengths, any_empty, any_over, broken, pushed, waits}
use Rattle.row.specs.Content.{rest_of, rests}
use Rattle.row.specs.Row.{head_len, drop_first, popped, packet_at, stepped, steps, outs}
use Rattle.sender.specs.State.{fresh, broken_state, put_queue, waiting_of}
use Rattle.sender.specs.Load.{full, load_tests, load_number, loaded, placed_in, load_for, store_for}
use Rattle.sender.specs.Frame.{hand_of, row_at, nulls, frame_packets, frame_tests, frame_number, framed, frame_for, frame_bytes, frame_out}
use Rattle.receiver.specs.Link.{kept, null_of, base_of, joins, adds, completes, fate_of, link_with, link_after, broken_link}
use Rattle.receiver.specs.Receiver as receives
use Rattle.demand.specs.Bytes.{split, readable, own}
use Rattle.demand.specs.Run.{Act, load, frame, fresh_desk, after, answer, answers}
use Rattle.demand.specs.Log.{events, log, gather, unit_for, packets_of, sent_of, left_of, waiting_at}
use Rattle.delivery.specs.Delivered.{fresh_ear, hear, unit_in, unit_by, delivered_of}

abbrev settings : Settings
settings = record { p = 4; n = 3; share = record { a = 0; b = 1; c = 0 }; ceiling = record { a = 1; b = 2; c = 1 } }

abbrev acts : List Act
acts = load settings 1 (1 ∷ 2 ∷ 3 ∷ 4 ∷ 5 ∷ 6 ∷ []) ∷ frame settings (replicate 21 0) ∷ []

abbrev three : List (List ℕ)
three =
    (0x90 ∷ 1 ∷ 2 ∷ 3 ∷ 4 ∷ 0xc5 ∷ 0x7a ∷ []) ∷ (0x59 ∷ 2 ∷ 5 ∷ 6 ∷ 0 ∷ 0xff ∷ 0x83 ∷ []) ∷ (0xf8 ∷ 0 ∷ 0 ∷ 0 ∷ 0 ∷ 0xd3 ∷ 0x88 ∷ []) ∷ []

-- two packets of id 1 and a null packet
pub packets_sent : sent_of (log acts (fresh_desk (replicate 12288 0))) ≡ three
unfolding written bytes_of shift feed bits_of bits_of_all crc_of unfit settings_tests settings_for give free given_to first_free taker give_one takers spread hand_out plan_for hand_for head_of data_of plain_of sealed encode add_up packets unsent waits waiting lengths any_empty any_over broken pushed head_len drop_first popped packet_at stepped steps outs fresh broken_state put_queue waiting_of full load_tests load_number loaded placed_in load_for store_for hand_of row_at nulls frame_packets frame_tests frame_number frame_bytes frame_for framed frame_out after split answer answers events gather packets_of
packets_sent = refl

-- seen from outside: behind the load two packets wait, and behind the frame none
pub two_wait : waiting_at 4 1 (log (load settings 1 (1 ∷ 2 ∷ 3 ∷ 4 ∷ 5 ∷ 6 ∷ []) ∷ []) (fresh_desk (replicate 12288 0))) ≡ 2
unfolding written bytes_of shift feed bits_of bits_of_all crc_of unfit settings_tests settings_for give free given_to first_free taker give_one takers spread hand_out plan_for hand_for head_of data_of plain_of sealed encode add_up packets unsent waiting lengths any_empty any_over broken pushed head_len drop_first popped packet_at stepped steps outs fresh broken_state put_queue waiting_of full load_tests load_number loaded placed_in load_for store_for hand_of row_at nulls frame_packets frame_tests frame_number frame_bytes frame_for framed frame_out after split answer answers events gather packets_of unit_for readable own left_of rests waits waiting_at
two_wait = refl

pub none_wait : waiting_at 4 1 (log acts (fresh_desk (replicate 12288 0))) ≡ 0
unfolding written bytes_of shift feed bits_of bits_of_all crc_of unfit settings_tests settings_for give free given_to first_free taker give_one takers spread hand_out plan_for hand_for head_of data_of plain_of sealed encode add_up packets unsent waiting lengths any_empty any_over broken pushed head_len drop_first popped packet_at stepped steps outs fresh broken_state put_queue waiting_of full load_tests load_number loaded placed_in load_for store_for hand_of row_at nulls frame_packets frame_tests frame_number frame_bytes frame_for framed frame_out after split answer answers events gather packets_of unit_for readable own left_of rest_of rests waits waiting_at big_of number_at padded body_of decode wrong_word wrong_count tests_for check_for
none_wait = refl

-- and the unit again
pub unit_delivered : delivered_of 4 1 (fresh_ear (replicate 16384 0)) three ≡ (1 ∷ 2 ∷ 3 ∷ 4 ∷ 5 ∷ 6 ∷ []) ∷ []
unfolding written big_of number_at shift feed bits_of bits_of_all crc_of padded body_of decode wrong_word wrong_count kept null_of base_of joins adds completes fate_of link_with link_after broken_link receives.fresh receives.broken receives.answer_by receives.answer_in receives.taken_in receives.buffer_in receives.step_tests receives.step_number receives.step_for receives.buffer_for hear unit_in unit_by delivered_of
unit_delivered = refl

-- its first packet is lost: the second is skipped, and the unit 07 08 behind it comes
pub next_delivered : delivered_of 4 1 (fresh_ear (replicate 16384 0)) ((0x59 ∷ 2 ∷ 5 ∷ 6 ∷ 0 ∷ 0xff ∷ 0x83 ∷ []) ∷ encode 4 (packet_of true true 1 2 (7 ∷ 8 ∷ [])) ∷ []) ≡ (7 ∷ 8 ∷ []) ∷ []
unfolding head_of data_of plain_of sealed encode bytes_of written big_of number_at shift feed bits_of bits_of_all crc_of padded body_of decode wrong_word wrong_count kept null_of base_of joins adds completes fate_of link_with link_after broken_link receives.fresh receives.broken receives.answer_by receives.answer_in receives.taken_in receives.buffer_in receives.step_tests receives.step_number receives.step_for receives.buffer_for hear unit_in unit_by delivered_of
next_delivered = refl

-- eight packets in a row lost inside a unit: the index is the next one again, and what is delivered is no unit that was sent
pub eight_unnoticed : delivered_of 1 1 (fresh_ear (replicate 16384 0)) (encode 1 (packet_of true false 1 0 (1 ∷ [])) ∷ encode 1 (packet_of false true 1 1 (10 ∷ [])) ∷ [])
    ≡ (1 ∷ 10 ∷ []) ∷ []
unfolding head_of data_of plain_of sealed encode bytes_of written big_of number_at shift feed bits_of bits_of_all crc_of padded body_of decode wrong_word wrong_count kept null_of base_of joins adds completes fate_of link_with link_after broken_link receives.fresh receives.broken receives.answer_by receives.answer_in receives.taken_in receives.buffer_in receives.step_tests receives.step_number receives.step_for receives.buffer_for hear unit_in unit_by delivered_of
eight_unnoticed = refl
