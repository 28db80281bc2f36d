-- B9, of timestamps: to 8 bytes and back both ways, and which one is next (01, "Clock and recordings"). Which follow: Following.antt; of packets:
-- crates/record/specs/Succession.antt. Assumes nothing.
use Rattle.std.specs.Prelude.{ℕ, ◌+◌, ◌<◌, ◌≤◌, ◌≡◌, List, length, take}
use Rattle.laws.specs.Big.{Bytes}
use Rattle.laws.specs.Written.{written}
use Rattle.clock.specs.declared.Stamp.{Stamp}
use Rattle.clock.specs.Stamps.{Within, encoded_for, output_for, decoded_for}
use Rattle.clock.specs.Next.{elapsed, next_for}

pub record RoundTrip : Type 0 where
  -- what is accepted for writing, into an output of any length, comes back
  pub written_is_read : (t : Stamp) (out : List ℕ) → (encoded_for t out).number ≡ 0
      → decoded_for (take (encoded_for t out).length (output_for t out)) ≡ record { number = 0; stamp = t }
  -- what is accepted for reading is written again, wherever it has room, as the same 8 bytes
  pub read_is_written : (value out : List ℕ) → Bytes value → (decoded_for value).number ≡ 0 → 8 ≤ length out
      → (encoded_for (decoded_for value).stamp out ≡ record { number = 0; length = 8 }) × (output_for (decoded_for value).stamp out ≡ written out 0 value)

pub record Successor : Type 0 where
  -- the next timestamp is 400 ms later, so strictly later, with the same UTCO
  pub later : (t : Stamp) → (next_for t).number ≡ 0 → (elapsed (next_for t).stamp ≡ elapsed t + 400) × ((next_for t).stamp.utco ≡ t.utco)
  pub strictly : (t : Stamp) → (next_for t).number ≡ 0 → elapsed t < elapsed (next_for t).stamp
  -- and its fields fit, so that it may be handed in again
  pub within : (t : Stamp) → (next_for t).number ≡ 0 → Within (next_for t).stamp
