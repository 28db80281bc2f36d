-- `saying::three` meets its contract. Assumes nothing.
use mathlib.Core.Path.{◌≡◌}
use Prim.Native.Nat.{ℕ}
use Rattle.saying.specs.declared.Said.{Said}
use Rattle.saying.specs.Values.{with}
use Rattle.saying.proofs.three.Goals as goal

-- `saying::three` meets its contract. Assumes nothing.
three_more : (s a b r : Said) (x y z : ℕ) → a ≡ with s x → b ≡ with a y → r ≡ with b z → r ≡ with (with (with s x) y) z
three_more s a b r x y z e f g = rw (g, f, e)

pub returns : goal.returns
returns c = search three_more
