-- `inspect_text::put_length` meets its contract. Assumes nothing.
use native.Mathlib.Omega.{arith}
use mathlib.Core.Path.{ap₂}
use Prim.Native.Nat.{ℕ, ◌+◌}
use mathlib.Core.List.{◌++◌}
use Rattle.line_text.specs.Decimal.{ascii, decimal}
use Rattle.inspect_text.proofs.Ways.{length_none, length_some}
use Rattle.moves.proofs.Pieces.{puts_same}
use Rattle.line_text.proofs.Room.{fit}
use Rattle.inspect_text.proofs.put_length.Goals as goal

pub returns-then-count-i : goal.returns-then-count-i
returns-then-count-i c = (omega arith, length_none _ _ _ _ _ c.if-count-i.true)

pub returns : goal.returns
returns c =
    let p0 = puts_same (ap₂ (λ (u v : ℕ). ascii " " ++ decimal (u + v)) c.from.ensures c.from-2.ensures) (fit (omega arith) c.named.ensures.1) in
    (omega arith, length_some _ _ _ c.if-count-i.false p0)
