-- `repeats::among_few` meets its contract. Assumes nothing.
use Rattle.repeats.proofs.Names.{arrays_fit}
use native.Mathlib.Omega.{arith}
use Rattle.repeats.proofs.among_few.Goals as goal

pub store-requires : goal.store-requires
store-requires c = arrays_fit 32 64 (omega arith) (omega arith)
