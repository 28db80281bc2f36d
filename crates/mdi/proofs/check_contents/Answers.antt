-- `mdi::check_contents` meets its contract. Assumes nothing.
use Rattle.mdi.proofs.Values.{served_at, description_at, streams_at}
use Rattle.mdi.proofs.Checks.{no_9, no_10, no_11, no_0}
use Rattle.mdi.proofs.check_contents.Goals as goal

pub returns-then-is_there-not_served : goal.returns-then-is_there-not_served
returns-then-is_there-not_served c = search (no_9, served_at)

pub returns-then-is_there-ill_formed : goal.returns-then-is_there-ill_formed
returns-then-is_there-ill_formed c = search (no_10, served_at, description_at)

pub returns-then-is_there-agree : goal.returns-then-is_there-agree
returns-then-is_there-agree c = search (no_11, served_at, description_at, streams_at)

pub returns : goal.returns
returns c =
    let x = c.spot-x.ensures in
    let y = c.spot-y.ensures in
    let pre = c.requires in
    no_0 _ _
    (served_at _ _ pre _ _ _ _ _ x c.is_there.ensures c.value.ensures c.of_value-f.ensures c.not_served.ensures)
    c.if-is_there-not_served.false _
    (description_at _ _ pre _ _ _ _ _ _ _ _ x c.value.ensures c.of_value-f.ensures y c.value-2.ensures c.of_value-d.ensures c.is_there-2.ensures c.ill_formed.ensures)
    c.if-is_there-ill_formed.false _
    (streams_at _ _ pre _ _ _ _ _ y c.value-2.ensures c.of_value-d.ensures c.is_there-3.ensures c.agree.ensures)
    c.if-is_there-agree.false
