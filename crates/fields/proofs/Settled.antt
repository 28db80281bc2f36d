-- Each promise settles its call: two outcomes that meet it for the same input are equal (01, "Acceptance of the promises"). Assumes nothing.
use Prim.Native.Nat.{ℕ, ◌+◌}
use mathlib.Core.Path.{◌≡◌}
use mathlib.Core.List.{List}
use mathlib.Core.Bool.{Bool}
use lib.Dec.{leb}
use lib.ListN.{length}
use Rattle.laws.specs.Big.{number_at}
use Rattle.laws.specs.Settle.{Settles}
use Rattle.laws.proofs.Settle.{settled, settled_both}
use Rattle.fields.specs.Numbers.{put_at}

-- `read16`, `read32` and `read64`, for every number of bytes; an input is the slice and the offset
pub number_read : (n : ℕ) → Settles (λ (i : List ℕ × ℕ) (r : ℕ). r ≡ number_at n i.0 i.1)
number_read n = settled (λ i. number_at n i.0 i.1)

-- `write16`, `write32` and `write64`; an input is the buffer, the offset and the number
pub number_write : (n : ℕ)
    → Settles (λ (i : List ℕ × ℕ × ℕ) (o : Bool × List ℕ). (o.0 ≡ leb (i.1 + n) (length i.0)) × (o.1 ≡ put_at n i.0 i.1 i.2))
number_write n = settled_both (λ i. leb (i.1 + n) (length i.0)) (λ i. put_at n i.0 i.1 i.2)
