-- Refusal 11, stream by stream: what `filled` says of four lengths, and what makes it hold. Assumes nothing.
use mathlib.Core.Path.{◌≡◌}
use mathlib.Core.Bool.{true, ◌&&◌}
use Prim.Native.Nat.{ℕ}
use borrow.Author.Tests.{eqb-true}
use lib.Dec.{eqb}
use Rattle.laws.proofs.Flags.{both}
use Rattle.description.specs.Bytes.{said_of, filled}
use Rattle.description.specs.declared.Description.{Description}

module _ (d : Description) (n0 n1 n2 n3 : ℕ) where
  pub filled_each : filled d n0 n1 n2 n3 ≡ true → (n0 ≡ said_of d 0) × (n1 ≡ said_of d 1) × (n2 ≡ said_of d 2) × (n3 ≡ said_of d 3)
  filled_each e =
      let three = both (eqb n0 (said_of d 0) && eqb n1 (said_of d 1) && eqb n2 (said_of d 2)) (eqb n3 (said_of d 3)) e in
      let two = both (eqb n0 (said_of d 0) && eqb n1 (said_of d 1)) (eqb n2 (said_of d 2)) three.0 in
      let one = both (eqb n0 (said_of d 0)) (eqb n1 (said_of d 1)) two.0 in
      (eqb-true _ _ one.0, eqb-true _ _ one.1, eqb-true _ _ two.1, eqb-true _ _ three.1)

  -- as the code has it: each length beside the size of its slot
  pub filled_is : (k0 k1 k2 k3 : ℕ) → k0 ≡ said_of d 0 → k1 ≡ said_of d 1 → k2 ≡ said_of d 2 → k3 ≡ said_of d 3
      → (eqb n0 k0 && eqb n1 k1 && eqb n2 k2 && eqb n3 k3) ≡ filled d n0 n1 n2 n3
  filled_is k0 k1 k2 k3 e0 e1 e2 e3 = rw (e0, e1, e2, e3)
