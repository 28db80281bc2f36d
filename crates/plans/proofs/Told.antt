-- What a change says settles its answer. Assumes nothing.
use mathlib.Core.Path.{refl, ap}
use Rattle.refusal.proofs.Told.{Tells}
use Rattle.plans.specs.Plans.{Changed, changed_in}
use Rattle.plans.specs.declared.Plans.{Plans}

pub changed_tells : (g : Plans) → Tells {A = Plans} {V = Changed} (changed_in g)
changed_tells g =
    record { number = λ c. c.number; of_ok = λ t. refl; of_err = λ r. refl; values = λ a b e. ap (λ (c : Changed). c.next) e }
