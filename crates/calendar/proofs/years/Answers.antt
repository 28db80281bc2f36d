-- `calendar::years` meets its contract. The invariant: the years counted and the days left are all the days, and size is the next year's. Assumes nothing.
use native.Mathlib.Nat.{div-add-mod'}
use native.Mathlib.Omega.{arith}
use Rattle.calendar.proofs.Days.{years_start, years_more}
use Rattle.calendar.proofs.years.Goals as goal

pub loop-size-init : goal.loop-size-init
loop-size-init c = (years_start _, omega (arith, div-add-mod' c.args.days 146097), c.year_days-size.ensures.0, c.year_days-size.ensures.1)

pub loop-size-preserved : goal.loop-size-preserved
loop-size-preserved c =
    let l = c.loop-size in
    let n = l.invariant in
    (years_more _ l.count l.rest l.size n.0 n.2 c.loop-size-test.true, omega arith, c.year_days-size-in-loop-size.ensures.0, c.year_days-size-in-loop-size.ensures.1)

pub returns : goal.returns
returns c =
    let l = c.loop-size in
    let n = l.invariant in
    (n.0, rw (← n.2) c.loop-size-test.false, omega arith)
