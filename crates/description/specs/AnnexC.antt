-- The worked description of annex C (000, table C.1): stream 0 has 1,105 bytes in part B, stream 1 has 59 in part A, stream 2 has 19 in part A;
-- level A is 0, level B 1. 01, marked examples 1 to 4. Assumes nothing.
use Rattle.std.specs.Prelude.{ℕ, List, [], ◌∷◌}
use Rattle.description.specs.declared.Description.{Description}
use Rattle.description.specs.Bytes.{no_stream}

abbrev pub annex_c : Description
annex_c =
    record {
      level = record { a = 0; b = 1 };
      count = 3;
      stream = record { a = 0; b = 1105 } ∷ record { a = 59; b = 0 } ∷ record { a = 19; b = 0 } ∷ no_stream ∷ [];
    }

abbrev pub annex_c_value : List ℕ
annex_c_value = 0x01 ∷ 0x00 ∷ 0x04 ∷ 0x51 ∷ 0x03 ∷ 0xb0 ∷ 0x00 ∷ 0x01 ∷ 0x30 ∷ 0x00 ∷ []
