-- `recording::open` meets its contract. Assumes nothing.
use mathlib.Core.Path.{sym, ap, ◌∙◌}
use Rattle.std.specs.Option.{option_copied}
use Rattle.recording.proofs.Answers.{first_none, first_some, open_empty, open_other, open_done}
use Rattle.recording.proofs.open.Goals as goal

pub returns-in_default : goal.returns-in_default
returns-in_default c = open_empty _ (first_none _ (sym c.first.ensures.value ∙ ap option_copied c.in_default.is))

pub returns-then-version-ne-VERSION : goal.returns-then-version-ne-VERSION
returns-then-version-ne-VERSION c =
    let f = first_some _ _ (sym c.first.ensures.value ∙ ap option_copied c.in-Some.is) in
    open_other _ f.0 (λ e. c.if-version-ne-VERSION.true (sym f.1 ∙ e))

pub returns : goal.returns
returns c =
    let f = first_some _ _ (sym c.first.ensures.value ∙ ap option_copied c.in-Some.is) in
    open_done _ f.0 (f.1 ∙ c.if-version-ne-VERSION.false)
