-- Each promise settles its call: two outcomes that meet it for the same input are equal (01, "Acceptance of the promises"). Assumes nothing.
use Prim.Native.Nat.{ℕ}
use mathlib.Core.Path.{◌≡◌}
use mathlib.Core.List.{List}
use Rattle.laws.specs.Settle.{Settles}
use Rattle.laws.proofs.Settle.{settled}
use Rattle.crc.specs.Crc.{crc_of}

-- `crc8` and `crc16`, for every width and polynomial
pub check_word : (w poly : ℕ) → Settles (λ (s : List ℕ) (r : ℕ). r ≡ crc_of w poly s)
check_word w poly = settled (crc_of w poly)
