-- `calendar::months` meets its contract. The invariant is that of `calendar::years`, for the months of one year. Assumes nothing.
use native.Mathlib.Omega.{arith}
use Rattle.calendar.specs.Calendar.{days_of_months}
use Rattle.calendar.proofs.Days.{months_more, months_left}
use Rattle.calendar.proofs.months.Goals as goal

pub loop-size-init : goal.loop-size-init
unfolding days_of_months
loop-size-init c = (omega arith, omega arith, c.month_days-size.ensures.0, c.month_days-size.ensures.1)

pub month_days-size-requires-in-loop-size : goal.month_days-size-requires-in-loop-size
month_days-size-requires-in-loop-size c =
    let l = c.loop-size in
    let n = l.invariant in
    omega (arith, months_left _ _ l.count l.rest l.size n.0 n.2 c.loop-size-test.true c.requires n.1)

pub loop-size-smaller : goal.loop-size-smaller
loop-size-smaller c =
    let l = c.loop-size in
    let n = l.invariant in
    omega (arith, months_left _ _ l.count l.rest l.size n.0 n.2 c.loop-size-test.true c.requires n.1)

pub loop-size-preserved : goal.loop-size-preserved
loop-size-preserved c =
    let l = c.loop-size in
    let n = l.invariant in
    let t = c.loop-size-test.true in (
      months_more _ _ l.count l.rest l.size n.0 n.2 t,
      months_left _ _ l.count l.rest l.size n.0 n.2 t c.requires n.1,
      c.month_days-size-in-loop-size.ensures.0,
      c.month_days-size-in-loop-size.ensures.1,
    )

pub returns : goal.returns
returns c =
    let n = c.loop-size.invariant in
    (n.0, omega arith, rw (← n.2) c.loop-size-test.false, omega arith)
