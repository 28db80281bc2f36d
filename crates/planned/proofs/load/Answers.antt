-- `planned::load` meets its contract. Assumes nothing.
use mathlib.Core.Path.{refl}
use Rattle.refusal.proofs.Numbers.{number_ne0}
use Rattle.planned.proofs.Ways.{load_refused_law, load_done}
use Rattle.planned.proofs.load.Goals as goal

pub returns-in-Ok : goal.returns-in-Ok
returns-in-Ok c = let both = load_done _ _ _ c.args.unit.now c.args.store.now _ c.in-Ok.ensures refl _ _ c.load.ensures.answer c.load.ensures.memory in record { answer = both.0; memory = both.1 }

pub returns-in-Err : goal.returns-in-Err
returns-in-Err c = let both = load_refused_law _ _ _ c.args.unit.now c.args.store.now _ c.in-Err.ensures (number_ne0 _) in record { answer = rw c.number.ensures both.0; memory = both.1 }
