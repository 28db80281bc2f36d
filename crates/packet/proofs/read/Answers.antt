-- `packet::read` meets its contract. Assumes nothing.
use native.Mathlib.Omega.{arith}
use mathlib.Core.Path.{refl}
use Rattle.std.proofs.lemmas.Result.{err_from_is_err_and}
use Rattle.refusal.proofs.Numbers.{number_ne0}
use Rattle.packet.proofs.Reading.{is_passed, read_refused, read_is, body_padded, body_full}
use Rattle.packet.proofs.read.Goals as goal

pub returns-in_err-check : goal.returns-in_err-check
returns-in_err-check c =
    let p = err_from_is_err_and c.from_residual.result c.from_residual.ensures.1 in
    rw (p.1, p.2) (read_refused _ _ _ c.in_err-check.ensures (number_ne0 _))

pub bounds-bytes-0 : goal.bounds-bytes-0
bounds-bytes-0 c = let k = is_passed _ _ _ c.in_ok-check.ensures refl in omega (arith, k.whole)

pub bounds-bytes-1 : goal.bounds-bytes-1
bounds-bytes-1 c = let k = is_passed _ _ _ c.in_ok-check.ensures refl in omega (arith, k.whole)

pub returns-then-padded : goal.returns-then-padded
returns-then-padded c =
    let e = c.in_ok-check.ensures in
    read_is _ _ _ e refl _ c.is_padded-padded.ensures _ (body_padded _ _ _ e refl _ c.is_padded-padded.ensures c.if-padded.true _ c.from.ensures).0

pub returns-else-padded : goal.returns-else-padded
returns-else-padded c =
    let e = c.in_ok-check.ensures in
    read_is _ _ _ e refl _ c.is_padded-padded.ensures _ (body_full _ _ _ e refl _ c.is_padded-padded.ensures c.if-padded.false).0
