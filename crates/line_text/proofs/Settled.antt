-- Each promise settles its call: two outcomes that meet it for the same input are equal (01, "Acceptance of the promises"). An input is what is
-- written, the buffer before the call and the offset. Assumes nothing.
use Prim.Native.Nat.{ℕ, ◌≤◌, ◌+◌}
use mathlib.Core.List.{List, ◌++◌}
use lib.ListN.{length}
use Rattle.laws.specs.Settle.{Settles}
use Rattle.line_text.specs.Line.{Placed}
use Rattle.line_text.proofs.Room.{placed_once}
use Rattle.line_text.specs.Decimal.{decimal, number_line, pair_line}

pub word : Settles (λ (i : List ℕ × List ℕ × ℕ) (o : ℕ × List ℕ). (o.0 ≤ i.2 + length i.0) × Placed (length i.0) i.1 i.2 i.0 o.1 o.0)
word i x y p q = placed_once (length i.0) i.2 (i.2 + length i.0) i.0 i.1 x y p q

pub named : Settles (λ (i : List ℕ × ℕ × List ℕ × ℕ) (o : ℕ × List ℕ).
    (o.0 ≤ i.3 + (length i.0 + 20)) × Placed (length i.0 + 20) i.2 i.3 (i.0 ++ decimal i.1) o.1 o.0)
named i x y p q = placed_once (length i.0 + 20) i.3 (i.3 + (length i.0 + 20)) (i.0 ++ decimal i.1) i.2 x y p q

pub line : Settles (λ (i : List ℕ × ℕ × List ℕ × ℕ) (o : ℕ × List ℕ).
    (o.0 ≤ i.3 + (length i.0 + 21)) × Placed (length i.0 + 21) i.2 i.3 (number_line i.0 i.1) o.1 o.0)
line i x y p q = placed_once (length i.0 + 21) i.3 (i.3 + (length i.0 + 21)) (number_line i.0 i.1) i.2 x y p q

pub pair : Settles (λ (i : List ℕ × ℕ × List ℕ × ℕ × List ℕ × ℕ) (o : ℕ × List ℕ).
    (o.0 ≤ i.5 + (length i.0 + length i.2 + 41)) × Placed (length i.0 + length i.2 + 41) i.4 i.5 (pair_line i.0 i.1 i.2 i.3) o.1 o.0)
pair i x y p q =
    placed_once (length i.0 + length i.2 + 41) i.5 (i.5 + (length i.0 + length i.2 + 41)) (pair_line i.0 i.1 i.2 i.3) i.4 x y p q
