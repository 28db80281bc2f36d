-- `plans::Plans::in_force` meets its contract. Assumes nothing.
use mathlib.Core.Logic.{inl, inr}
use Rattle.plans.proofs.Ways.{force_none, force_other, force_taken}
use Rattle.plans.proofs.Plans.in_force.Goals as goal

pub returns-then-self-count : goal.returns-then-self-count
returns-then-self-count c = force_taken _ _ c.if-self.true c.if-self-count.true _ c.second_set.ensures _ c.of.ensures

pub returns-else-self : goal.returns-else-self
returns-else-self c = elim c.else-self.either [ inl h ↦ force_other _ _ h.1 | inr h ↦ force_none _ _ h ]
