-- `mdi::is_protocol` meets its contract. Assumes nothing.
use native.Mathlib.Omega.{arith}
use Rattle.laws.specs.Big.{number_at, big_of}
use Rattle.mdi.proofs.Values.{protocol_is}
use Rattle.mdi.proofs.is_protocol.Goals as goal

-- the four letters are the first four bytes of an opening
pub returns : goal.returns
unfolding number_at big_of
returns c =
    let k = c.shared_slice_known-1.given in
    protocol_is _ _ _ _ (λ i. omega (arith, k i)) c.read32.ensures c.read32-2.ensures c.read16.ensures
