-- What the bytes of a record begun say. Assumes nothing.
use Rattle.std.specs.Prelude.{ℕ}

-- the record has more bytes to come, it is whole, or it is wrong whatever follows
pub data Sign : Type 0 where
  More : Sign
  Whole : Sign
  Wrong : (number : ℕ) → Sign
