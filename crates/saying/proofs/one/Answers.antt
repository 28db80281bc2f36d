-- `saying::one` meets its contract. Assumes nothing.
use mathlib.Core.Path.{◌≡◌}
use Prim.Native.Nat.{ℕ}
use Rattle.saying.specs.declared.Said.{Said}
use Rattle.saying.specs.Values.{begun, with}
use Rattle.saying.proofs.one.Goals as goal

-- `saying::one` meets its contract. Assumes nothing.
one_more : (a r : Said) (n x : ℕ) → a ≡ begun n 0 → r ≡ with a x → r ≡ with (begun n 0) x
one_more a r n x e f = rw (f, e)

pub returns : goal.returns
returns c = search one_more
