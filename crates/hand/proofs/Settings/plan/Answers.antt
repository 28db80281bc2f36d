-- `hand::Settings::plan` meets its contract. Assumes nothing.
use Rattle.hand.proofs.Ways.{plan_is}
use Rattle.hand.proofs.Settings.plan.Goals as goal

pub returns : goal.returns
returns c = search plan_is
