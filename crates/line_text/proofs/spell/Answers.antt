-- `line_text::spell` meets its contract. Assumes nothing.
use Rattle.std.proofs.Common.{◌≡◌, ℕ, suc, ◌+◌, ◌-◌, ◌%◌, ◌<◌, ◌^◌, ◌++◌, length, take, drop, sym, ap, ◌∙◌, subst, arith}
use Rattle.std.proofs.Math.ListN.{set, length-set}
use Rattle.moves.specs.Moves as moves
use Rattle.line_text.specs.Decimal.{decimal}
use Rattle.line_text.proofs.Decimal.{fewer, found, spelled}
use Rattle.line_text.proofs.spell.Goals as goal

pub loop-rest-preserved : goal.loop-rest-preserved
loop-rest-preserved c =
    let x = c.loop-rest in
    let v = x.invariant in
    let e : x.at ≡ suc (x.at - 1) = omega arith in
    let f : x.at ≡ x.at - 1 + 1 = omega arith in
    let m = fewer x.rest (x.at - 1) c.loop-rest-test.true (subst (λ (j : ℕ). x.rest < 10 ^ j) e v.room) in
    record {
      some = m.0;
      most = omega arith;
      room = m.1;
      size = length-set x.digits (x.at - 1) (48 + x.rest % 10) ∙ v.size;
      text = found c.args.n x.rest (x.at - 1) x.digits c.loop-rest-test.true (omega arith)
          (subst (λ (j : ℕ). decimal c.args.n ≡ decimal x.rest ++ drop j x.digits) f v.text);
    }

pub returns : goal.returns
returns c =
    let x = c.loop-rest in
    let v = x.invariant in
    let f : x.at ≡ x.at - 1 + 1 = omega arith in
    let t = subst (λ (j : ℕ). decimal c.args.n ≡ decimal x.rest ++ drop j x.digits) f v.text in
    let w : length x.digits - (x.at - 1) ≡ 20 - (x.at - 1) = omega arith in
    let both = spelled c.args.n x.rest (x.at - 1) x.digits c.args.out.now c.put.new.dst c.put.result c.loop-rest-test.false (omega arith) (omega arith) t
    (c.put.ensures.answer ∙ ap (λ (j : ℕ). moves.behind c.args.out.now 0 (take j (drop (x.at - 1) (set x.digits (x.at - 1) (48 + x.rest))))) (sym w))
    (c.put.ensures.memory ∙ ap (λ (j : ℕ). moves.placed c.args.out.now 0 (take j (drop (x.at - 1) (set x.digits (x.at - 1) (48 + x.rest))))) (sym w)) in
    (omega arith, both.1)
