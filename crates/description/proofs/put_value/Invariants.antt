-- What the loop of `put_value` keeps. Assumes nothing.
use mathlib.Core.Path.{◌≡◌}
use Prim.Native.Nat.{◌+◌}
use lib.ListN.{length, take}
use Rattle.laws.specs.Written.{written}
use Rattle.description.specs.Bytes.{stream_bytes}
use Rattle.description.proofs.put_value.Given as goal

abbrev pub invariant-loop-i : goal.invariant-loop-i
invariant-loop-i l = (l.out ≡ written l.initial.out (l.at + 1) (stream_bytes (take l.i l.streams))) × (length l.out ≡ length l.initial.out)
