-- `receiver::Link::after` meets its contract. Assumes nothing.
use native.Mathlib.Omega.{arith}
use mathlib.Core.Path.{ap, ◌∙◌}
use mathlib.Core.Bool.{not, ◌&&◌}
use Rattle.receiver.proofs.Links.{after_null, after_more, after_shut, more_fits}
use Rattle.receiver.proofs.Link.after.Goals.{else-adds-via-then-adds+else-not-head, else-adds-via-else-adds}
use Rattle.receiver.proofs.Link.after.Goals as goal

pub returns-then-is_null : goal.returns-then-is_null
returns-then-is_null c = search after_null

pub overflow_cast-n : goal.overflow_cast-n
overflow_cast-n c = omega (arith, more_fits _ _ _ _ _ _ _ c.adds.ensures c.if-adds.true c.base.ensures.0)

pub returns-then-not-head : goal.returns-then-not-head
returns-then-not-head c = search after_more

pub returns : goal.returns
returns c =
    let l = c.args.head.last in
    after_shut _ _ _ _ _ _ _ c.is_null.ensures _ c.if-is_null.false c.adds.ensures
    (elim c.else-adds.branch [
      | else-adds-via-then-adds+else-not-head w ↦ ap (λ a. a && not l) w.if-adds.true ∙ w.if-not-head.false
      | else-adds-via-else-adds w ↦ ap (λ a. a && not l) w.if-adds.false
    ])
    c.link_with-2.ensures
