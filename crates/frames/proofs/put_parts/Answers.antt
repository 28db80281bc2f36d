-- `frames::put_parts` meets its contract. Assumes nothing.
use mathlib.Core.Path.{◌≡◌, refl, sym, ◌∙◌}
use lib.ListN.{length}
use lib.Seq.{length-take-le}
use Rattle.frames.proofs.Putting.{starts, room_a, room_b, parts_put}
use borrow.Author.Rules.{rules}
use Rattle.frames.proofs.put_parts.Goals as goal

pub slice_bounds-put_four-end : goal.slice_bounds-put_four-end
slice_bounds-put_four-end c = sym (length-take-le _ _ (starts c.args.d c.args.s0.now c.args.s1.now c.args.s2.now c.args.s3.now _ c.requires).0)

pub slice_bounds-put_four-end-2 : goal.slice_bounds-put_four-end-2
slice_bounds-put_four-end-2 c = sym (length-take-le _ _ (starts c.args.d c.args.s0.now c.args.s1.now c.args.s2.now c.args.s3.now _ c.requires).1)

pub slice_bounds-put_four-end-3 : goal.slice_bounds-put_four-end-3
slice_bounds-put_four-end-3 c = sym (length-take-le _ _ (starts c.args.d c.args.s0.now c.args.s1.now c.args.s2.now c.args.s3.now _ c.requires).2)

pub slice_bounds-put_four-end-4 : goal.slice_bounds-put_four-end-4
slice_bounds-put_four-end-4 c = sym (length-take-le _ _ (starts c.args.d c.args.s0.now c.args.s1.now c.args.s2.now c.args.s3.now _ c.requires).3)

pub put_four-at-requires : goal.put_four-at-requires
put_four-at-requires c = room_a c.args.d c.args.s0.now c.args.s1.now c.args.s2.now c.args.s3.now _ c.requires

pub put_four-requires : goal.put_four-requires
put_four-requires c = room_b c.args.d c.args.s0.now c.args.s1.now c.args.s2.now c.args.s3.now _ c.requires c.args.out.now _ _ refl c.put_four-at.ensures (search rules)

pub shape_of-out : goal.shape_of-out
shape_of-out c = c.put_four.auto.out ∙ c.put_four-at.auto.out

pub returns : goal.returns
returns c =
    let n : length c.args.d.stream ≡ 4 = search rules in
    parts_put c.args.d c.args.s0.now c.args.s1.now c.args.s2.now c.args.s3.now _ c.requires c.args.out.now _ _ refl c.put_four-at.ensures n _ _ c.put_four.ensures
