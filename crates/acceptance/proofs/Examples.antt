-- The marked examples of 01 hold, as one statement over their list, by computation. Assumes nothing.
use mathlib.Core.Path.{refl}
use Rattle.laws.specs.Big.{bytes_of, big_of}
use Rattle.laws.specs.Written.{written}
use Rattle.clock.specs.Next.{elapsed, later, next_tests, next_for}
use Rattle.clock.specs.Stamps as stamps
use Rattle.description.specs.Answers as descriptions
use Rattle.description.specs.Bytes.{length_bytes, stream_bytes, value_of, entity_of, lengths_of, slot_at, described_by}
use Rattle.places.specs.Parts.{lengths_in, used_by, padding_of, layout_tests, layout_for}
use Rattle.description.specs.WellFormed.{is_too_large, ill_formed}
use Rattle.dispersal.specs.Dispersal as dispersal
use Rattle.hand.specs.Hand.{give, free, given_to, first_free, taker, give_one, takers, spread, hand_out, plan_for, hand_for}
use Rattle.hand.specs.Settings.{unfit, settings_tests, settings_for}
use Rattle.acceptance.specs.Examples.{Hold, examples}

pub examples_hold : Hold examples
unfolding examples
    bytes_of big_of written
    descriptions.output_for descriptions.write_tests descriptions.writing_tests descriptions.handed
    descriptions.entity_output_for descriptions.write_entity_tests descriptions.read_for descriptions.read_tests descriptions.reading_tests
    length_bytes stream_bytes value_of entity_of lengths_of slot_at described_by
    lengths_in used_by padding_of layout_tests layout_for is_too_large ill_formed
    dispersal.output_for dispersal.number_for dispersal.tests_for dispersal.dispersed dispersal.dispersed_from dispersal.next dispersal.push
    stamps.output_for stamps.encode_number stamps.encode_tests stamps.field_tests stamps.stamp_bytes stamps.bits_of stamps.stamped
    elapsed later next_tests next_for
    give free given_to first_free taker give_one takers spread hand_out plan_for hand_for unfit settings_tests settings_for
examples_hold = (refl, (refl, (refl, (refl, (refl, (refl, (refl, (refl, (refl, (refl, (refl, (refl, (refl, tt)))))))))))))
