-- The fast access channel as a record and as the 9 bytes of a `fac_` value (01, "MDI packet", FAC; 000, 6.3). Assumes nothing.
use Rattle.std.specs.Prelude.{ℕ, ◌^◌, Bool, false, ◌||◌, ◌&&◌, List, [], ◌∷◌, ◌++◌, eqb, leb, length, get_or, take}
use Rattle.laws.specs.Big.{bytes_of, number_at}
use Rattle.laws.specs.Fields.{fields_of, number_of}
use Rattle.crc.specs.Crc.{crc_of}
use Rattle.fac.specs.declared.Fac.{Fac}

-- the 18 fields in the order of 01: 20 channel bits, then 44 service bits
abbrev pub widths : List ℕ
widths = 1 ∷ 2 ∷ 1 ∷ 3 ∷ 1 ∷ 2 ∷ 1 ∷ 4 ∷ 3 ∷ 2 ∷ 24 ∷ 2 ∷ 1 ∷ 4 ∷ 1 ∷ 5 ∷ 1 ∷ 6 ∷ []

abbrev pub in_order : Fac → List ℕ
in_order f =
    f.base
    ∷ f.identity
    ∷ f.rm
    ∷ f.occupancy
    ∷ f.interleaver
    ∷ f.msc
    ∷ f.sdc
    ∷ f.services
    ∷ f.reconfiguration
    ∷ f.channel
    ∷ f.service
    ∷ f.short
    ∷ f.audio_ca
    ∷ f.language
    ∷ f.audio_data
    ∷ f.descriptor
    ∷ f.data_ca
    ∷ f.reserved
    ∷ []

-- the record that has these fields
abbrev pub from_fields : List ℕ → Fac
from_fields v =
    record {
      base = get_or v 0 0;
      identity = get_or v 1 0;
      rm = get_or v 2 0;
      occupancy = get_or v 3 0;
      interleaver = get_or v 4 0;
      msc = get_or v 5 0;
      sdc = get_or v 6 0;
      services = get_or v 7 0;
      reconfiguration = get_or v 8 0;
      channel = get_or v 9 0;
      service = get_or v 10 0;
      short = get_or v 11 0;
      audio_ca = get_or v 12 0;
      language = get_or v 13 0;
      audio_data = get_or v 14 0;
      descriptor = get_or v 15 0;
      data_ca = get_or v 16 0;
      reserved = get_or v 17 0;
    }

-- the 64 bits of a record, and the record that 64 bits hold
unfoldable pub bits_of : Fac → ℕ
bits_of f = number_of widths (in_order f)

unfoldable pub fac_from : ℕ → Fac
fac_from x = from_fields (fields_of widths x)

-- bytes with their CRC-8 behind
unfoldable pub sealed8 : List ℕ → List ℕ
sealed8 s = s ++ (crc_of 8 0x1d s ∷ [])

-- the value of a `fac_` item, and what a value says: all zeros where it has not eight bytes
unfoldable pub fac_bytes : Fac → List ℕ
fac_bytes f = sealed8 (bytes_of 8 (bits_of f))

unfoldable pub fac_of : List ℕ → Fac
fac_of value = fac_from (number_at 8 value 0)

-- the ninth byte is there, and is the CRC-8 of those before it
unfoldable pub sealed : List ℕ → Bool
sealed value = leb 9 (length value) && eqb (crc_of 8 0x1d (take 8 value)) (get_or value 8 0)

-- some field has a number too large for its bits
abbrev pub exceeds : List ℕ → List ℕ → Bool
exceeds [] vs = false
exceeds (w ∷ ws) [] = false
exceeds (w ∷ ws) (v ∷ vs) = leb (2 ^ w) v || exceeds ws vs

unfoldable pub is_too_large : Fac → Bool
is_too_large f = exceeds widths (in_order f)

-- what is not served: base flag 1, RM flag 1, occupancy 6 or 7, MSC mode 1 or 2, number-of-services codes 1011 and 1110
unfoldable pub not_served : Fac → Bool
not_served f =
    eqb f.base 1
    || eqb f.rm 1
    || (eqb f.occupancy 6 || eqb f.occupancy 7)
    || (eqb f.msc 1 || eqb f.msc 2)
    || (eqb f.services 11 || eqb f.services 14)
