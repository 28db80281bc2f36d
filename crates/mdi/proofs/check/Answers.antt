-- `mdi::check` meets its contract. Assumes nothing.
use Rattle.mdi.proofs.Checks.{way_1, way_2, way_3, way_on, way_done, spots_of_law}
use Rattle.std.proofs.lemmas.Result.{err_from_is_err_and}
use Rattle.mdi.proofs.check.Goals as goal

pub returns-then-packet-gt65528 : goal.returns-then-packet-gt65528
returns-then-packet-gt65528 c = search way_1

pub returns-then-packet-seen-ge8 : goal.returns-then-packet-seen-ge8
returns-then-packet-seen-ge8 c = search way_2

pub returns-in-Some : goal.returns-in-Some
returns-in-Some c = way_3 c.args.packet.now c.if-packet-gt65528.false _ c.find_all-seen.ensures.0 c.if-packet-seen-ge8.false _ c.in-Some.ensures

pub check_items-requires : goal.check_items-requires
check_items-requires c = search spots_of_law

pub returns-in_err-check_items : goal.returns-in_err-check_items
returns-in_err-check_items c =
    let p = err_from_is_err_and c.from_residual.result c.from_residual.ensures.1 in
    rw (p.1, p.2)
    (way_on c.args.packet.now c.if-packet-gt65528.false _ c.find_all-seen.ensures.0 c.if-packet-seen-ge8.false c.in_default.ensures
    c.in_err-check_items.field-0.0 c.in_err-check_items.ensures)

pub returns : goal.returns
returns c =
    way_done c.args.packet.now c.if-packet-gt65528.false _ c.find_all-seen.ensures.0 c.if-packet-seen-ge8.false c.in_default.ensures
    c.in_ok-check_items.ensures
