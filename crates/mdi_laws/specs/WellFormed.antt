-- A well-formed MDI packet, in the words of 01 ("MDI packet", "The description and the frame it cuts"; 002, clause 5). Assumes nothing.
use Rattle.std.specs.Prelude.{ℕ, ◌+◌, ◌-◌, ◌%◌, ◌≤◌, ◌<◌, ◌≡◌, List, ◌⊎◌, length, get_or, take}
use Rattle.laws.specs.Big.{number_at}
use Rattle.laws.specs.Limits.{longest}
use Rattle.crc.specs.Crc.{crc_of}
use Rattle.clock.specs.Stamps.{stamp_of}
use Rattle.description.specs.Bytes.{said_of, described_by}
use Rattle.description.specs.WellFormed as described
use Rattle.description.specs.declared.Description.{Description}
use Rattle.fac.specs.Channel.{fac_of}
use Rattle.fac.specs.declared.Fac.{Fac}
use Rattle.items.specs.Items.{Item, some, cut_of, find, value_of, Once}
use Rattle.mdi_spots.specs.Names.{letters, ptr, dlfc, fac, sdc, sdci, robm, tist}
use Rattle.mdi_spots.specs.Table.{name_of}
use Rattle.mdi.specs.Conditions.{msc_mode}
use Rattle.mdi.specs.Reading.{stream_of}

-- ---- one item

-- an item of the name is there, its length in bits is allowed, and so is its value
pub record Required (name : List ℕ) (Bits : ℕ → Type 0) (Value : List ℕ → Type 0) (is : List Item) : Type 0 where
  pub item : Item
  pub there : find name is ≡ some item
  pub size : Bits item.bits
  pub content : Value item.value

-- the same, if it is there
abbrev pub Optional : List ℕ → (ℕ → Type 0) → (List ℕ → Type 0) → List Item → Type 0
Optional name Bits Value is = (i : Item) → find name is ≡ some i → Bits i.bits × Value i.value

-- ---- lengths in bits

abbrev pub Exactly : ℕ → ℕ → Type 0
Exactly n bits = bits ≡ n

abbrev pub WholeBytes : ℕ → Type 0
WholeBytes bits = bits % 8 ≡ 0

abbrev pub SdcBits : ℕ → Type 0
SdcBits bits = (bits ≡ 0) ⊎ ((24 ≤ bits) × (bits ≤ 8216) × WholeBytes bits)

abbrev pub SdciBits : ℕ → Type 0
SdciBits bits = (bits ≡ 32) ⊎ ((bits ≡ 56) ⊎ ((bits ≡ 80) ⊎ (bits ≡ 104)))

-- ---- values

abbrev pub Anything : List ℕ → Type 0
Anything v = Unit {0}

-- the four letters DMDI, and major revision 0
pub record Protocol (v : List ℕ) : Type 0 where
  pub four : take 4 v ≡ letters
  pub major : number_at 2 v 4 ≡ 0

-- a channel that is served
pub record Served (f : Fac) : Type 0 where
  pub base : f.base ≡ 1 → ⊥
  pub rm : f.rm ≡ 1 → ⊥
  pub occupancy : (f.occupancy ≡ 6 → ⊥) × (f.occupancy ≡ 7 → ⊥)
  pub msc : (f.msc ≡ 1 → ⊥) × (f.msc ≡ 2 → ⊥)
  pub services : (f.services ≡ 11 → ⊥) × (f.services ≡ 14 → ⊥)

-- the ninth byte is the CRC-8 of the eight before it, and what they say is served
pub record GoodFac (v : List ℕ) : Type 0 where
  pub check : crc_of 8 0x1d (take 8 v) ≡ get_or v 8 0
  pub served : Served (fac_of v)

-- four zero bits, and the last two bytes are the CRC-16 of those before them
pub record Block (v : List ℕ) : Type 0 where
  pub zeros : get_or v 0 0 < 16
  pub check : number_at 2 v (length v - 2) ≡ crc_of 16 0x1021 (take (length v - 2) v)

-- an empty item reads as an absent block
abbrev pub BlockOrNone : List ℕ → Type 0
BlockOrNone v = (length v ≡ 0) ⊎ Block v

-- robustness mode A, B, C or D
abbrev pub Robustness : List ℕ → Type 0
Robustness v = get_or v 0 0 ≤ 3

abbrev pub Milliseconds : List ℕ → Type 0
Milliseconds v = (stamp_of v).milliseconds ≤ 999

-- ---- the packet

-- what the `sdci` item says
abbrev pub description_in : List Item → Description
description_in is = described_by (value_of (find sdci is))

pub record WellFormed (p : List ℕ) : Type 0 where
  pub short : length p ≤ longest
  -- behind the last whole item stand seven or fewer bytes
  pub whole : length p - (cut_of p).stop < 8
  -- no name, known or not, stands twice
  pub once : Once (cut_of p).items
  pub header : Required ptr (Exactly 64) Protocol (cut_of p).items
  pub count : Required dlfc (Exactly 32) Anything (cut_of p).items
  pub channel : Required fac (Exactly 72) GoodFac (cut_of p).items
  pub block : Optional sdc SdcBits BlockOrNone (cut_of p).items
  -- the description is well formed under the MSC mode that the FAC gives
  pub description : Required sdci SdciBits (λ v. described.WellFormed (msc_mode (cut_of p).items) (described_by v)) (cut_of p).items
  pub robustness : Required robm (Exactly 8) Robustness (cut_of p).items
  -- str0 to str3, the rows of the table from 6 on
  pub streams : (k : ℕ) → k < 4 → Optional (name_of (6 + k)) WholeBytes Anything (cut_of p).items
  pub time : Optional tist (Exactly 64) Milliseconds (cut_of p).items
  -- a stream of the description has as many bytes as its two parts, any other none
  pub filled : (k : ℕ) → k < (description_in (cut_of p).items).count → length (stream_of (cut_of p).items k) ≡ said_of (description_in (cut_of p).items) k
  pub empty : (k : ℕ) → (description_in (cut_of p).items).count ≤ k → length (stream_of (cut_of p).items k) ≡ 0
