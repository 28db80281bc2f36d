-- What the loop of `put_parts` keeps. Assumes nothing.
use mathlib.Core.Path.{◌≡◌}
use Prim.Native.Nat.{◌+◌, ◌*◌, ◌≤◌}
use lib.ListN.{length, take}
use Rattle.moves.specs.Moves.{Puts}
use Rattle.layout_text.specs.Text.{part_lines}
use Rattle.layout_text.proofs.put_parts.Given as goal

abbrev pub invariant-loop-i : goal.invariant-loop-i
invariant-loop-i l = (l.next ≤ l.at + 87 * l.i) × Puts l.initial.out l.at (part_lines l.name 0 (take l.i l.parts)) l.out l.next × (length l.out ≡ length l.initial.out)
