-- `packet::write` meets its contract. Assumes nothing.
use mathlib.Core.Path.{refl}
use native.Mathlib.Omega.{arith}
use Rattle.std.proofs.lemmas.Result.{err_from_is_err_and}
use Rattle.refusal.proofs.Numbers.{number_ne0}
use Rattle.packet.proofs.Writing.{writable, write_refused, write_done}
use Rattle.packet.proofs.write.Goals as goal

pub returns-in_err-fits : goal.returns-in_err-fits
returns-in_err-fits c =
    let p = err_from_is_err_and c.from_residual.result c.from_residual.ensures.1 in
    rw (p.1, p.2) (let both = write_refused _ _ _ _ _ c.args.useful.now c.args.out.now _ c.in_err-fits.ensures (number_ne0 _) in record { answer = both.0; memory = both.1 })

pub byte-requires : goal.byte-requires
byte-requires c = let k = writable _ _ _ _ _ _ c.in_ok-fits.ensures refl in (k.id_in, k.index_in)

pub put-requires : goal.put-requires
put-requires c = let k = writable _ _ _ _ _ _ c.in_ok-fits.ensures refl in (k.low, k.high, k.short, k.fits)

pub overflow_add-result : goal.overflow_add-result
overflow_add-result c = let k = writable _ _ _ _ _ _ c.in_ok-fits.ensures refl in omega (arith, k.high)

pub returns : goal.returns
returns c = let both = write_done _ _ _ _ _ c.args.useful.now c.args.out.now _ c.in_ok-fits.ensures refl _ _ c.byte.ensures c.put.ensures in record { answer = both.0; memory = both.1 }
