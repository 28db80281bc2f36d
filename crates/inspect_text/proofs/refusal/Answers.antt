-- `inspect_text::refusal` meets its contract. Assumes nothing.
use native.Mathlib.Omega.{arith}
use Rattle.inspect_text.specs.Inspect.{refused_text}
use Rattle.line_text.proofs.Room.{fit}
use Rattle.inspect_text.proofs.refusal.Goals as goal

pub returns : goal.returns
unfolding refused_text
returns c =
    let p0 = fit (omega arith) c.pair.ensures.1 in
    p0
