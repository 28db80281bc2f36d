-- Each promise settles its call: two outcomes that meet it for the same input are equal (01, "Acceptance of the promises"). An input is what the
-- program reads, and the buffer before the call. Assumes nothing.
use Prim.Native.Nat.{ℕ}
use mathlib.Core.Path.{◌≡◌}
use mathlib.Core.List.{List}
use lib.ListN.{length}
use Rattle.laws.specs.Settle.{Settles}
use Rattle.laws.specs.Written.{written}
use Rattle.laws.proofs.Settle.{settled_both}
use Rattle.layout_text.specs.Text.{text_of}

pub text : Settles (λ (i : List ℕ × List ℕ) (o : ℕ × List ℕ). (o.0 ≡ length (text_of i.0)) × (o.1 ≡ written i.1 0 (text_of i.0)))
text = settled_both (λ i. length (text_of i.0)) (λ i. written i.1 0 (text_of i.0))
