-- `mdi_write::put_item` meets its contract. Assumes nothing.
use mathlib.Core.Path.{refl, ap, ◌∙◌}
use native.Mathlib.Omega.{arith}
use Rattle.moves.specs.Moves.{placed}
use Rattle.mdi_spots.specs.Table.{table, names_of}
use lib.ListN.{length}
use Rattle.mdi_write.proofs.Values.{item_none, item_some, name_is, four_at}
use Rattle.mdi_write.proofs.put_item.Goals as goal

pub returns-then-n-eq0 : goal.returns-then-n-eq0
returns-then-n-eq0 c = let both = item_none _ c.args.value.now c.args.out.now _ c.if-n-eq0.true in record { value = both.0; out_after = both.1 }

pub overflow_mul-row : goal.overflow_mul-row
overflow_mul-row c = let h = c.requires.1 in omega arith

pub overflow_mul-row-2 : goal.overflow_mul-row-2
overflow_mul-row-2 c = let h = c.requires.1 in omega arith

pub overflow_add-row : goal.overflow_add-row
overflow_add-row c = let h = c.requires.1 in omega arith

pub slice_bounds-copy-end : goal.slice_bounds-copy-end
slice_bounds-copy-end c = let h = c.requires.1 in let l = ap length c.requires.0 in omega arith

pub returns : goal.returns
returns c =
    let n = name_is c.args.names.now c.args.row c.requires.0 c.requires.1 in
    let h = c.requires.1 in
    let f = four_at (names_of table) refl c.args.row (omega arith) in
    let both = item_some _ c.args.value.now c.args.out.now _ c.if-n-eq0.false f c.requires.3 _ _ _
    (c.copy.ensures ∙ ap (placed c.args.out.now _) n) c.write32.ensures.1 c.copy-2.ensures in record { value = both.0; out_after = both.1 }
