-- `inspect_text::put_mode` meets its contract. Assumes nothing.
use native.Mathlib.Omega.{arith}
use Rattle.inspect_text.specs.Inspect.{mode_text}
use Rattle.line_text.proofs.Room.{fit}
use Rattle.inspect_text.proofs.put_mode.Goals as goal

pub returns : goal.returns
unfolding mode_text
returns c =
    let p0 = fit (omega arith) c.word.ensures.1 in
    (omega arith, p0)
