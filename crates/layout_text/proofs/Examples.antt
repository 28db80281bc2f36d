-- The text that 01 gives for annex C in 1,200 bytes, and two refusals, by computation. Assumes nothing.
use mathlib.Core.Path.{◌≡◌, refl}
use mathlib.Core.List.{[], ◌∷◌}
use Rattle.laws.specs.Big.{big_of, number_at}
use Rattle.description.specs.AnnexC.{annex_c_value}
use Rattle.description.specs.Bytes.{lengths_of, slot_at, described_by}
use Rattle.description.specs.WellFormed.{ill_formed}
use Rattle.places.specs.Parts.{lengths_in, used_by, parts_from, parts_of, padding_of}
use Rattle.line_text.specs.Decimal.{ascii, digits_of, decimal}
use Rattle.layout_text.specs.Text.{place_text, line_of, part_lines, lines_of, tests_for, number_for, text_of}

pub annex_c_law : text_of (0x04 ∷ 0xb0 ∷ annex_c_value) ≡ ascii "capacity 1200\npart A stream 1 at 0 length 59\npart A stream 2 at 59 length 19\npart B stream 0 at 78 length 1105\npadding at 1183 length 17\n"
unfolding text_of number_for tests_for number_at big_of ill_formed described_by slot_at lengths_of used_by lengths_in parts_of parts_from padding_of lines_of part_lines line_of place_text decimal digits_of
annex_c_law = refl

pub too_small : text_of (0x04 ∷ 0x9e ∷ annex_c_value) ≡ ascii "refused 12\n"
unfolding text_of number_for tests_for number_at big_of ill_formed described_by slot_at lengths_of used_by lengths_in decimal digits_of
too_small = refl

pub nothing_there : text_of [] ≡ ascii "refused 1\n"
unfolding text_of number_for tests_for decimal digits_of
nothing_there = refl
