-- `repeats::among_many` meets its contract. Assumes nothing.
use Rattle.repeats.proofs.Names.{arrays_fit, never_full}
use native.Mathlib.Omega.{arith}
use Rattle.repeats.proofs.among_many.Goals as goal

pub store-requires : goal.store-requires
store-requires c = arrays_fit 8192 16384 (omega arith) (omega arith)

pub returns : goal.returns
returns c = rw c.flatten.ensures (never_full _ _ c.requires c.store.ensures)
