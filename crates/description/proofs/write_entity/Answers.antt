-- `description::write_entity` meets its contract. Assumes nothing.
use mathlib.Core.Path.{refl}
use native.Mathlib.Omega.{arith}
use lib.ListN.{length-set}
use borrow.Author.Tests.{ltb-false}
use Rattle.std.proofs.lemmas.Result.{err_from_is_err_and}
use Rattle.refusal.proofs.Numbers.{number_ne0}
use Rattle.description.proofs.Writing.{writable, entity_refused, entity_done}
use Rattle.description.proofs.write_entity.Goals as goal

pub returns-in_err-size : goal.returns-in_err-size
returns-in_err-size c =
    let a = c.args in
    let p = err_from_is_err_and c.from_residual.result c.from_residual.ensures.1 in
    rw (p.1, p.2) (let both = entity_refused a.version a.d a.mode _ a.out.now c.in_err-size.ensures.number (number_ne0 _) in record { answer = both.0; memory = both.1 })

pub overflow_mul-out : goal.overflow_mul-out
overflow_mul-out c =
    let w = writable _ _ _ _ _ _ c.in_ok-size.ensures.number refl in
    let v = ltb-false 1 c.args.version w.2 in
    omega arith

pub overflow_cast-out : goal.overflow_cast-out
overflow_cast-out c =
    let w = writable _ _ _ _ _ _ c.in_ok-size.ensures.number refl in
    let v = ltb-false 1 c.args.version w.2 in
    omega arith

pub overflow_add-out : goal.overflow_add-out
overflow_add-out c =
    let w = writable _ _ _ _ _ _ c.in_ok-size.ensures.number refl in
    let v = ltb-false 1 c.args.version w.2 in
    omega arith

pub bounds-out-0 : goal.bounds-out-0
bounds-out-0 c =
    let w = writable _ _ _ _ _ _ c.in_ok-size.ensures.number refl in
    let v = ltb-false 1 c.args.version w.2 in
    omega arith

pub put_value-requires : goal.put_value-requires
put_value-requires c =
    let w = writable _ _ _ _ _ _ c.in_ok-size.ensures.number refl in
    (w.0, simp length-set (omega arith))

pub returns : goal.returns
returns c =
    let a = c.args in
    let both = entity_done a.version a.d a.mode _ a.out.now c.in_ok-size.ensures.number refl _ c.in_ok-size.ensures.size _ c.put_value.ensures in
    record { answer = both.0; memory = both.1 }
