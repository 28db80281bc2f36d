-- `packet::useful` meets its contract. Assumes nothing.
use mathlib.Core.Path.{refl}
use native.Mathlib.Omega.{arith}
use Rattle.packet.proofs.Reading.{with_err, with_ok, is_passed, useful_refused, padded_in, useful_padded, useful_full}
use Rattle.packet.proofs.useful.Goals as goal

pub returns-then-is_err : goal.returns-then-is_err
returns-then-is_err c = useful_refused _ _ _ c.check.ensures (with_err _ _ c.is_err.ensures.value c.if-is_err.true)

pub bounds-bytes-0 : goal.bounds-bytes-0
bounds-bytes-0 c = let k = is_passed _ _ _ (with_ok _ _ _ c.check.ensures c.is_err.ensures.value c.if-is_err.false) refl in omega (arith, k.whole)

pub bounds-bytes-1 : goal.bounds-bytes-1
bounds-bytes-1 c = let k = is_passed _ _ _ (with_ok _ _ _ c.check.ensures c.is_err.ensures.value c.if-is_err.false) refl in omega (arith, k.whole)

pub slice_bounds-result-end-then-is_padded : goal.slice_bounds-result-end-then-is_padded
slice_bounds-result-end-then-is_padded c = padded_in _ _ _ (with_ok _ _ _ c.check.ensures c.is_err.ensures.value c.if-is_err.false) refl _ c.is_padded.ensures c.if-is_padded.true _ c.from-n.ensures

pub returns-then-is_padded : goal.returns-then-is_padded
returns-then-is_padded c = useful_padded _ _ _ (with_ok _ _ _ c.check.ensures c.is_err.ensures.value c.if-is_err.false) refl _ c.is_padded.ensures c.if-is_padded.true _ c.from-n.ensures

pub overflow_add-result-2 : goal.overflow_add-result-2
overflow_add-result-2 c = let k = is_passed _ _ _ (with_ok _ _ _ c.check.ensures c.is_err.ensures.value c.if-is_err.false) refl in omega (arith, k.high)

pub slice_bounds-result-end-2 : goal.slice_bounds-result-end-2
slice_bounds-result-end-2 c = let k = is_passed _ _ _ (with_ok _ _ _ c.check.ensures c.is_err.ensures.value c.if-is_err.false) refl in omega (arith, k.whole)

pub returns : goal.returns
returns c = useful_full _ _ _ (with_ok _ _ _ c.check.ensures c.is_err.ensures.value c.if-is_err.false) refl _ c.is_padded.ensures c.if-is_padded.false
