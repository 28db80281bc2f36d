-- An MDI packet as it is written (01, "MDI packet": the writer's order is the table's; empty items are left out). Assumes nothing.
use Rattle.std.specs.Prelude.{ℕ, Option, None, Some, ◌*◌, List, [], ◌∷◌, ◌++◌, length}
use Rattle.laws.specs.Big.{bytes_of}
use Rattle.clock.specs.declared.Stamp.{Stamp}
use Rattle.items.specs.Items.{Item}
use Rattle.items.specs.Joined.{joined, kept}
use Rattle.mdi_spots.specs.Names.{letters}
use Rattle.mdi_spots.specs.Table.{table, names_of}
use Rattle.clock.specs.Stamps.{stamp_bytes}
use Rattle.description.specs.Bytes as described
use Rattle.fac.specs.Channel.{fac_bytes}
use Rattle.sdc.specs.Block.{sdc_bytes}
use Rattle.record.specs.declared.Record.{Record}

-- the bytes of the four streams
pub record Streams : Type 0 where
  pub s0 : List ℕ
  pub s1 : List ℕ
  pub s2 : List ℕ
  pub s3 : List ℕ

abbrev pub four : List ℕ → List ℕ → List ℕ → List ℕ → Streams
four a b c d = record { s0 = a; s1 = b; s2 = c; s3 = d }

-- an item of whole bytes. Its place comes with the items before it
abbrev pub entry : List ℕ → List ℕ → Item
entry name value = record { place = 0; name = name; bits = 8 * length value; value = value }

-- DMDI, major revision 0, minor revision 0
abbrev pub opening : List ℕ
opening = letters ++ (0 ∷ 0 ∷ 0 ∷ 0 ∷ [])

-- the value of a `tist` item: empty where there is no timestamp
unfoldable pub time_bytes : Option Stamp → List ℕ
time_bytes None = []
time_bytes (Some t) = stamp_bytes t

-- the values in the order of 01's table: those before the streams, the streams, the timestamp
abbrev pub head_values : Record → List (List ℕ)
head_values r =
    opening
    ∷ bytes_of 4 r.count
    ∷ fac_bytes r.fac
    ∷ sdc_bytes r.sdc
    ∷ described.value_of r.description
    ∷ (r.robustness ∷ [])
    ∷ []

abbrev pub stream_values : Streams → List (List ℕ)
stream_values ss = ss.s0 ∷ ss.s1 ∷ ss.s2 ∷ ss.s3 ∷ []

abbrev pub values_of : Record → Streams → List (List ℕ)
values_of r ss = head_values r ++ (stream_values ss ++ (time_bytes r.time ∷ []))

-- each under the name of its row
abbrev pub entries : List (List ℕ) → List (List ℕ) → List Item
entries ns [] = []
entries [] (v ∷ vs) = []
entries (n ∷ ns) (v ∷ vs) = entry n v ∷ entries ns vs

unfoldable pub items_of : Record → Streams → List Item
items_of r ss = entries (names_of table) (values_of r ss)

unfoldable pub packet_of : Record → Streams → List ℕ
packet_of r ss = joined (kept (items_of r ss))
