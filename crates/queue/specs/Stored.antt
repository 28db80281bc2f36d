-- A queue and the count of waiting packets that is stored for it (02, E1). Assumes nothing.
use Rattle.std.specs.Prelude.{ℕ, Bool, not, ◌||◌, eqb}
use Rattle.queue.specs.Queue.{waiting, broken}
use Rattle.queue.specs.declared.Queue.{Queue}

-- the count differs from the sum over the units, for packets of p data bytes
unfoldable pub miscounts : ℕ → Queue → ℕ → Bool
miscounts p q stored = not (eqb stored (waiting p q))

-- refusal 17 of the two: a fault of the queue, or such a count
unfoldable pub wrong : ℕ → Queue → ℕ → Bool
wrong p q stored = broken p q || miscounts p q stored
