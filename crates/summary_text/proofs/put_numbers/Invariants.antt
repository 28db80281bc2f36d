-- What the loop of `put_numbers` keeps, and how it ends. Assumes nothing.
use mathlib.Core.Path.{◌≡◌}
use Prim.Native.Nat.{◌+◌, ◌*◌, ◌≤◌}
use lib.ListN.{length, take, drop}
use Rattle.moves.specs.Moves.{Puts}
use Rattle.summary_text.specs.Summary.{numbers_text}
use Rattle.summary_text.proofs.put_numbers.Given as goal

abbrev pub invariant-loop-i : goal.invariant-loop-i
invariant-loop-i l = (l.next ≤ l.at + 51 * l.i) × Puts l.initial.out l.at (numbers_text 1 (take l.i (drop 1 l.ns))) l.out l.next × (length l.out ≡ length l.initial.out)
