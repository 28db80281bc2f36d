-- Vectors of the item `tist` and the last timestamps of 40 bits, by computation; 01's marked examples are in crates/acceptance. Assumes nothing.
use Prim.Native.Nat.{ℕ, ◌-◌, ◌^◌}
use mathlib.Core.Path.{◌≡◌, refl}
use mathlib.Core.List.{[], ◌∷◌}
use Rattle.laws.specs.Big.{bytes_of, big_of}
use Rattle.clock.specs.declared.Stamp.{Stamp}
use Rattle.clock.specs.Answers.{no_stamp}
use Rattle.clock.specs.Stamps.{bits_of, stamp_from, stamp_bytes, stamp_of, late, field_tests, decode_tests, stamped, decoded_for}
use Rattle.clock.specs.Next.{elapsed, later, next_tests, next_for}

abbrev at : ℕ → ℕ → ℕ → Stamp
at u s m = record { utco = u; seconds = s; milliseconds = m }

-- the largest of each field
pub largest : stamp_bytes (at 16383 (2 ^ 40 - 1) 999) ≡ 255 ∷ 255 ∷ 255 ∷ 255 ∷ 255 ∷ 255 ∷ 255 ∷ 0xe7 ∷ []
unfolding stamp_bytes bits_of bytes_of
largest = refl

pub utco_alone : stamp_bytes (at 1 0 0) ≡ 0 ∷ 4 ∷ 0 ∷ 0 ∷ 0 ∷ 0 ∷ 0 ∷ 0 ∷ []
unfolding stamp_bytes bits_of bytes_of
utco_alone = refl

-- 1,000 ms in a value is refused; at 2^40 - 1 seconds 599 ms has a successor and 600 ms has none
pub thousand : decoded_for (255 ∷ 255 ∷ 255 ∷ 255 ∷ 255 ∷ 255 ∷ 255 ∷ 0xe8 ∷ []) ≡ stamped 6 no_stamp
unfolding decoded_for stamped decode_tests late stamp_of stamp_from big_of
thousand = refl

pub last : next_for (at 5 (2 ^ 40 - 1) 599) ≡ stamped 0 (at 5 (2 ^ 40 - 1) 999)
unfolding next_for stamped next_tests field_tests later elapsed
last = refl

pub none : next_for (at 5 (2 ^ 40 - 1) 600) ≡ stamped 18 no_stamp
unfolding next_for stamped next_tests field_tests later elapsed
none = refl
