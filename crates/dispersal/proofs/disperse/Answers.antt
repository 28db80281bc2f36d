-- `dispersal::disperse` meets its contract. Assumes nothing.
use mathlib.Core.Path.{refl, sym, ap, ◌∙◌}
use Rattle.laws.proofs.Written.{written_none, written_front}
use Rattle.dispersal.specs.Dispersal.{push, next, ones, dispersed}
use Rattle.dispersal.proofs.Answers.{too_long, too_short, done}
use Rattle.dispersal.proofs.Sequence.{after, after_one, byte_at, length_dispersed}
use Rattle.dispersal.proofs.disperse.Goals as goal
use Rattle.dispersal.proofs.disperse.Goals.{then-input-gt65528-via-then-input-gt65528, then-input-gt65528-via-else-input-gt65528+then-output-input}

pub returns-then-input-gt65528 : goal.returns-then-input-gt65528
returns-then-input-gt65528 c =
    let a = c.args in
    elim c.then-input-gt65528.branch [
      | then-input-gt65528-via-then-input-gt65528 w ↦
          let both = too_long a.input.now a.output.now w.if-input-gt65528.true in record { answer = both.0; memory = both.1 }
      | then-input-gt65528-via-else-input-gt65528+then-output-input w ↦
          let both = too_short a.input.now a.output.now w.if-input-gt65528.false w.if-output-input.true in record { answer = both.0; memory = both.1 }
    ]

-- nine ones, and that they follow the nine bits above them: antt computes it
pub loop-i-init : goal.loop-i-init
unfolding after next push
loop-i-init c = record { register = refl; above = refl; front = sym (written_none c.args.output.now 0) }

pub loop-i-preserved : goal.loop-i-preserved
loop-i-preserved c =
    let S = c.args.input.now in
    let i = c.loop-i.i in
    let h = c.loop-i-test.true in
    let n = c.loop-i.invariant in
    let m = c.eight_more-more.ensures in
    let r = m.register ∙ ap next n.register in record {
      register = r ∙ after_one ones i;
      above = m.above;
      front =
          written_front c.args.output.now c.loop-i.output (dispersed S) i _ (rw length_dispersed c.if-output-input.false) (rw length_dispersed h)
          (byte_at S i _ h r) n.front;
    }

pub returns : goal.returns
returns c =
    let a = c.args in
    let both = done a.input.now a.output.now c.if-input-gt65528.false c.if-output-input.false c.loop-i.output c.loop-i.i c.loop-i-test.false c.loop-i.invariant.front in
    record { answer = both.0; memory = both.1 }
