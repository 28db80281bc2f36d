-- `walk::judge` meets its contract. Assumes nothing.
use Rattle.std.proofs.Common.{Ok, sym, refl, ap, ◌∙◌}
use Rattle.recording.specs.Answers.{step_in}
use Rattle.walk.proofs.Calls.{judge_entry, judge_end, judge_refused}
use Rattle.walk.proofs.judge.Goals as goal

pub returns-in-Ok-Some : goal.returns-in-Ok-Some
returns-in-Ok-Some c =
    judge_entry _ _ (ap (λ o. step_in (Ok o)) (sym c.in-Ok-Some.field-0-is) ∙ c.in-Ok-Some.ensures.answer) _ _ _ _ _ _ refl refl

pub returns-in-Ok-None : goal.returns-in-Ok-None
returns-in-Ok-None c = judge_end _ _ (ap (λ o. step_in (Ok o)) (sym c.in-Ok-None.field-0-is) ∙ c.in-Ok-None.ensures.answer) _ _ refl

pub returns-in-Err : goal.returns-in-Err
returns-in-Err c = judge_refused _ _ c.in-Err.ensures.answer _ _ _ _ _ refl c.met.ensures
