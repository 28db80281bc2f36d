-- `planned::frame` meets its contract. Assumes nothing.
use mathlib.Core.Path.{refl}
use Rattle.refusal.proofs.Numbers.{number_ne0}
use Rattle.planned.proofs.Ways.{frame_refused, frame_done}
use Rattle.planned.proofs.frame.Goals as goal

pub returns-in-Err : goal.returns-in-Err
returns-in-Err c =
    let both = frame_refused _ _ _ c.args.store.now c.args.out.now _ c.in-Err.ensures (number_ne0 _) in record { answer = rw c.number.ensures both.0; written = both.1 }

pub returns : goal.returns
returns c =
    let both = frame_done _ _ _ c.args.store.now c.args.out.now _ c.in_default.ensures refl _ c.in_force-then.ensures _ _ c.frame-sent.ensures.answer
    c.frame-sent.ensures.output _ c.kept.ensures in record { answer = both.0; written = both.1 }
