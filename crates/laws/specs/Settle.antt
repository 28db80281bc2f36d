-- What it means that a promise settles a call (01, "Acceptance of the promises"): two outcomes that meet it for the same input are equal.
-- The outcome is the answer and, where memory is lent, what it then holds. Assumes nothing.
use Rattle.std.specs.Prelude.{◌≡◌}

abbrev pub Settles : {I O : Type 0} → (I → O → Type 0) → Type 0
Settles {I} {O} Promise = (i : I) (x y : O) → Promise i x → Promise i y → x ≡ y
