-- `clock::utco_follows` meets its contract. Assumes nothing.
use Rattle.clock.proofs.Answers.{Near, near_same, near_more, near_follows, far_follows}
use Rattle.clock.proofs.utco_follows.Goals as goal
use Rattle.clock.proofs.utco_follows.Goals.{then-v-u, else-v-u}

pub returns-then-v-one_more : goal.returns-then-v-one_more
returns-then-v-one_more c =
    let near : Near c.args.a c.args.b c.if-v-u.value = elim c.if-v-u.branch [ then-v-u w ↦ near_same c.args.a c.args.b _ w.if-v-u.true w.value-is | else-v-u w ↦ near_more c.args.a c.args.b _ _ w.one_more.ensures w.if-v-u.false w.value-is ] in
    near_follows _ _ _ near c.if-v-one_more.true

pub returns-else-v-one_more : goal.returns-else-v-one_more
returns-else-v-one_more c =
    let near : Near c.args.a c.args.b c.if-v-u.value = elim c.if-v-u.branch [ then-v-u w ↦ near_same c.args.a c.args.b _ w.if-v-u.true w.value-is | else-v-u w ↦ near_more c.args.a c.args.b _ _ w.one_more.ensures w.if-v-u.false w.value-is ] in
    far_follows _ _ _ near c.if-v-one_more.false _ c.one_more-else-v-one_more.ensures
