-- What the private steps of the writer ask for and leave; no promise of a public call cites it. Assumes nothing.
use Rattle.std.specs.Prelude.{ℕ, ◌+◌, ◌*◌, false, ◌≡◌, List, length, drop}
use Rattle.items.specs.Joined.{joined, kept, chunk, chunk_size}
use Rattle.tag_spots.specs.Rows.{in_row}
use Rattle.mdi_spots.specs.Table.{table, names_of}
use Rattle.description.specs.WellFormed as described
use Rattle.fac.specs.Channel as fast
use Rattle.sdc.specs.Block.{sdc_bytes}
use Rattle.record.specs.declared.Record.{Record}
use Rattle.mdi_write.specs.Packet.{time_bytes, entries}

-- the names, one behind the other
abbrev pub all_names : List ℕ
all_names = in_row (names_of table)

-- an item as it is written, and how many bytes it takes with n bytes of value
abbrev pub wire : List ℕ → List ℕ → List ℕ
wire name value = chunk name (8 * length value) value

abbrev pub wire_size : ℕ → ℕ
wire_size n = chunk_size (8 * n) n

-- values in the rows from row k on, as they are written
abbrev pub laid : ℕ → List (List ℕ) → List ℕ
laid k vs = joined (kept (entries (drop k (names_of table)) vs))

-- what has been tested once the items before the streams are written
pub record Tested (r : Record) : Type 0 where
  pub fits : fast.is_too_large r.fac ≡ false
  pub served : fast.not_served r.fac ≡ false
  pub small : described.is_too_large r.description ≡ false
  pub formed : described.ill_formed r.fac.msc r.description ≡ false

-- the bytes of a packet with streams of these lengths: 16 of `*ptr`, 12 of `dlfc`, 17 of `fac_`, 9 of `sdci` without its streams, 9 of
-- `robm`, and what the others take
abbrev pub size_for : Record → ℕ → ℕ → ℕ → ℕ → ℕ
size_for r n0 n1 n2 n3 =
    63 + wire_size (length (sdc_bytes r.sdc)) + 3 * r.description.count + wire_size n0 + wire_size n1 + wire_size n2 + wire_size n3
    + wire_size (length (time_bytes r.time))
