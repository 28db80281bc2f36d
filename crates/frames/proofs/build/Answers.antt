-- `frames::build` meets its contract. Assumes nothing.
use mathlib.Core.Path.{refl}
use borrow.Author.Rules.{rules}
use Rattle.std.proofs.lemmas.Result.{err_from_is_err_and}
use Rattle.refusal.proofs.Numbers.{number_ne0}
use Rattle.frames.proofs.Building.{ready_of, within, build_refused, build_done}
use Rattle.frames.proofs.build.Goals as goal

pub returns-in_err-check : goal.returns-in_err-check
returns-in_err-check c =
    let a = c.args in
    let p = err_from_is_err_and c.from_residual.result c.from_residual.ensures.1 in
    rw (p.1, p.2)
    (let both = build_refused _ a.d _ a.s0.now a.s1.now a.s2.now a.s3.now a.out.now _ c.in_err-check.ensures (number_ne0 _) in record { answer = both.0; memory = both.1 })

pub put_parts-end-requires : goal.put_parts-end-requires
put_parts-end-requires c =
    let a = c.args in
    (ready_of _ a.d _ a.s0.now a.s1.now a.s2.now a.s3.now _ _ (search rules) c.in_ok-check.ensures refl).0

pub overflow_sub-capacity : goal.overflow_sub-capacity
overflow_sub-capacity c =
    let a = c.args in
    let w = ready_of _ a.d _ a.s0.now a.s1.now a.s2.now a.s3.now _ _ (search rules) c.in_ok-check.ensures refl in
    within a.d _ _ w.1 c.put_parts-end.ensures.0

pub returns : goal.returns
returns c =
    let a = c.args in
    let both = build_done _ a.d _ a.s0.now a.s1.now a.s2.now a.s3.now a.out.now _ c.in_ok-check.ensures refl (search rules) _ _ _
    c.put_parts-end.ensures c.clear.ensures in record { answer = both.0; memory = both.1 }
