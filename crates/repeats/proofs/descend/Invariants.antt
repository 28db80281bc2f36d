-- What the loop of `descend` keeps, and how it ends. Assumes nothing.
use Rattle.repeats.proofs.Trees.{On}
use Prim.Native.Nat.{◌-◌}
use Rattle.repeats.proofs.descend.Given as goal

abbrev pub invariant-loop-node : goal.invariant-loop-node
invariant-loop-node l = On l.keys l.kids l.n l.key l.w l.node

abbrev pub decreases-loop-node : goal.decreases-loop-node
decreases-loop-node l = l.n - l.node
