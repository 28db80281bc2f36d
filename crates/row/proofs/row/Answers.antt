-- `row::row` meets its contract. Assumes nothing.
use mathlib.Core.Path.{◌≡◌, refl, ap, ◌∙◌}
use Prim.Native.Nat.{ℕ}
use mathlib.Core.Bool.{not}
use borrow.Author.Rules.{rules}
use lib.ListN.{length}
use Rattle.ring.specs.Ring.{turned}
use Rattle.ring.proofs.Turned.{turned_within}
use Rattle.row.proofs.Steps.{row_fit, row_whole}
use Rattle.row.proofs.Rings.{ring_none, ring_done}
use Rattle.row.proofs.row.Goals as goal

pub returns-then-not-is_fit : goal.returns-then-not-is_fit
returns-then-not-is_fit c = let both = ring_none _ _ _ _ _ c.args.start c.args.ring.now c.args.dst.now _ c.is_fit.ensures (ap not c.if-not-is_fit.true) in record { value = both.0; dst_after = both.1 }

pub write_row-requires : goal.write_row-requires
write_row-requires c =
    let k = row_fit _ _ _ _ _ c.args.ring.now c.args.dst.now _ c.is_fit.ensures (ap not c.if-not-is_fit.false) in
    let l8 : length c.args.q.left ≡ 8 = search rules in
    (row_whole _ _ _ _ _ c.args.ring.now c.args.dst.now _ c.is_fit.ensures (ap not c.if-not-is_fit.false) l8, c.within-from.ensures.1, k.id_in, k.low, search rules, k.fits_in)

pub returns : goal.returns
returns c =
    let r = c.args.ring.now in
    let both = ring_done _ _ _ _ _ c.args.start r c.args.dst.now _ c.is_fit.ensures (ap not c.if-not-is_fit.false) _ _ _ _ refl c.write_row.ensures.value c.write_row.ensures.dst_after
    (ap (λ (s : ℕ). turned s r) c.within-from.ensures.0 ∙ turned_within c.args.start r) in record { value = both.0; dst_after = both.1 }
