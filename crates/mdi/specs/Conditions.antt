-- When an MDI packet is refused with 6 to 11 (01, "Numbers given back" and "MDI packet"), each over the list of its items. An item that is
-- not there has nothing wrong: that it is missing is 4. Assumes nothing.
use Rattle.std.specs.Prelude.{ℕ, Bool, ◌&&◌, ◌||◌, not, List, leb, eqb, length, get_or, take}
use Rattle.laws.specs.Big.{number_at}
use Rattle.clock.specs.Stamps.{decoded_for}
use Rattle.description.specs.Bytes.{described_by}
use Rattle.description.specs.WellFormed.{ill_formed}
use Rattle.description.specs.declared.Description.{Description}
use Rattle.fac.specs.Channel as fast
use Rattle.fac.specs.Channel.{fac_of, not_served}
use Rattle.sdc.specs.Block as block
use Rattle.items.specs.Items.{Item, find, value_of, same_name, bytes_for}
use Rattle.mdi_spots.specs.Names.{letters, ptr, fac, sdc, sdci, robm, str0, str1, str2, str3, tist}
use Rattle.mdi_spots.specs.Table.{ill}
use Rattle.mdi_spots.specs.Spotted.{spot_in}
use Rattle.mdi_spots.specs.Streams.{filled}
use Rattle.mdi_spots.specs.declared.Spots.{Spots}

-- ---- 6: protocol, major revision, robustness, milliseconds

-- the four letters, and major revision 0; the minor revision is not looked at
unfoldable pub protocol : List ℕ → Bool
protocol v = same_name letters (take 4 v) && eqb (number_at 2 v 4) 0

unfoldable pub known_mode : List ℕ → Bool
known_mode v = leb (get_or v 0 0) 3

-- the timestamp would be refused with 6: its milliseconds are over 999
unfoldable pub on_time : List ℕ → Bool
on_time v = not (eqb (decoded_for v).number 6)

unfoldable pub bad_value : List Item → Bool
bad_value is = ill protocol (find ptr is) || ill known_mode (find robm is) || ill on_time (find tist is)

-- ---- 7: the CRC of the FAC
unfoldable pub bad_fac : List Item → Bool
bad_fac is = ill fast.sealed (find fac is)

-- ---- 8: the CRC of the SDC, or its four zero bits
unfoldable pub bad_sdc : List Item → Bool
bad_sdc is = ill block.sealed (find sdc is)

-- ---- 9: the FAC is not served
unfoldable pub served : List ℕ → Bool
served v = not (not_served (fac_of v))

unfoldable pub unserved : List Item → Bool
unserved is = ill served (find fac is)

-- ---- 10: the description is not well formed under the MSC mode that the FAC gives
unfoldable pub msc_mode : List Item → ℕ
msc_mode is = (fac_of (value_of (find fac is))).msc

unfoldable pub bad_description : List Item → Bool
bad_description is = ill (λ v. not (ill_formed (msc_mode is) (described_by v))) (find sdci is)

-- ---- 11: the bytes of a stream are not as many as the description says

-- an absent stream has length 0
abbrev pub given : List ℕ → List Item → ℕ
given name is = length (value_of (find name is))

unfoldable pub agrees : List Item → Description → Bool
agrees is d = filled d (given str0 is) (given str1 is) (given str2 is) (given str3 is)

-- the same asked of the spots: the streams are rows 6 to 9 of the table
unfoldable pub agrees_at : Spots → Description → Bool
agrees_at t d =
    filled d (bytes_for (spot_in t 6).bits) (bytes_for (spot_in t 7).bits) (bytes_for (spot_in t 8).bits) (bytes_for (spot_in t 9).bits)

unfoldable pub bad_streams : List Item → Bool
bad_streams is = ill (λ v. agrees is (described_by v)) (find sdci is)
