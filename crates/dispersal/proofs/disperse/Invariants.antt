-- What the loop of `disperse` keeps: the first i bytes of the output are those of the dispersed input, the others stand as they were;
-- the low nine of the bits are the register after i bytes, and the nine above them those before it. Assumes nothing.
use mathlib.Core.Path.{◌≡◌}
use Prim.Native.Nat.{◌/◌, ◌%◌}
use lib.ListN.{take}
use Rattle.laws.specs.Written.{written}
use Rattle.dispersal.specs.Dispersal.{push, next, ones, dispersed}
use Rattle.dispersal.proofs.Sequence.{after}
use Rattle.dispersal.proofs.disperse.Given as goal

abbrev pub invariant-loop-i : goal.invariant-loop-i
invariant-loop-i l = record {
  register : l.bits % 512 ≡ after ones l.i;
  above : l.bits % 512 ≡ push (next (l.bits / 512 % 512));
  front : l.output ≡ written l.initial.output 0 (take l.i (dispersed l.input));
}
