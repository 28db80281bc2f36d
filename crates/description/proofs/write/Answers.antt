-- `description::write` meets its contract. Assumes nothing.
use mathlib.Core.Path.{refl}
use Rattle.std.proofs.lemmas.Result.{err_from_is_err_and}
use Rattle.refusal.proofs.Numbers.{number_ne0}
use Rattle.description.proofs.Writing.{writable, write_refused, write_done}
use Rattle.description.proofs.write.Goals as goal

pub returns-in_err-size : goal.returns-in_err-size
returns-in_err-size c =
    let a = c.args in
    let p = err_from_is_err_and c.from_residual.result c.from_residual.ensures.1 in
    rw (p.1, p.2) (let both = write_refused a.d a.mode _ a.out.now c.in_err-size.ensures.number (number_ne0 _) in record { answer = both.0; memory = both.1 })

pub put_value-requires : goal.put_value-requires
put_value-requires c = let w = writable _ _ _ _ _ _ c.in_ok-size.ensures.number refl in (w.0, w.1)

pub returns : goal.returns
returns c =
    let a = c.args in
    let both = write_done a.d a.mode _ a.out.now c.in_ok-size.ensures.number refl _ c.in_ok-size.ensures.size _ c.put_value.ensures in
    record { answer = both.0; memory = both.1 }
