-- What the loop of `read` keeps: the number of the bytes passed. Assumes nothing.
use mathlib.Core.Path.{◌≡◌}
use Prim.Native.Nat.{◌*◌, ◌^◌, ◌<◌}
use Rattle.laws.specs.Big.{number_at}
use Rattle.fields.proofs.read.Given as goal

abbrev pub invariant-loop-byte : goal.invariant-loop-byte
invariant-loop-byte l = record { is : l.number ≡ number_at l.byte-index l.s l.at; fits : l.number < 2 ^ (8 * l.byte-index) }
