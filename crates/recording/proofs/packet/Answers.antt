-- `recording::packet` meets its contract. Assumes nothing.
use mathlib.Core.Path.{sym, ap, ◌∙◌}
use native.Mathlib.Omega.{arith}
use Rattle.std.specs.Prelude.{Ok}
use Rattle.recording.specs.Answers.{step_in}
use Rattle.recording.proofs.Answers.{entry_means, packet_there, packet_ended, packet_refused}
use Rattle.recording.proofs.packet.Goals as goal

pub slice_bounds-result-count : goal.slice_bounds-result-count
slice_bounds-result-count c =
    let w = entry_means _ _ _ _ _ (sym c.in-Ok-Some.ensures.answer ∙ ap (λ o. step_in (Ok o)) c.in-Ok-Some.field-0-is) in omega (arith, w.ends)

pub slice_bounds-result-start : goal.slice_bounds-result-start
slice_bounds-result-start c =
    let w = entry_means _ _ _ _ _ (sym c.in-Ok-Some.ensures.answer ∙ ap (λ o. step_in (Ok o)) c.in-Ok-Some.field-0-is) in omega (arith, w.ends)

pub slice_bounds-result-end : goal.slice_bounds-result-end
slice_bounds-result-end c =
    (entry_means _ _ _ _ _ (sym c.in-Ok-Some.ensures.answer ∙ ap (λ o. step_in (Ok o)) c.in-Ok-Some.field-0-is)).within

pub returns-in-Ok-Some : goal.returns-in-Ok-Some
returns-in-Ok-Some c =
    packet_there _ _ _ _ _ (sym c.in-Ok-Some.ensures.answer ∙ ap (λ o. step_in (Ok o)) c.in-Ok-Some.field-0-is)

pub returns-in-Ok-None : goal.returns-in-Ok-None
returns-in-Ok-None c = packet_ended _ _ (sym c.in-Ok-None.ensures.answer ∙ ap (λ o. step_in (Ok o)) c.in-Ok-None.field-0-is)

pub returns-in-Err : goal.returns-in-Err
returns-in-Err c = packet_refused _ _ _ _ (sym c.in-Err.ensures.answer)
