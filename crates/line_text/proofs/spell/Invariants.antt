-- What the loop of `spell` keeps, and how it ends. Assumes nothing.
use Rattle.std.proofs.Common.{◌≡◌, ◌^◌, ◌<◌, ◌≤◌, ◌++◌, length, drop}
use Rattle.line_text.specs.Decimal.{decimal}
use Rattle.line_text.proofs.spell.Given as goal

abbrev pub invariant-loop-rest : goal.invariant-loop-rest
invariant-loop-rest l = record {
  some : 1 ≤ l.at;
  most : l.at ≤ 20;
  room : l.rest < 10 ^ l.at;
  size : length l.digits ≡ 20;
  text : decimal l.n ≡ decimal l.rest ++ drop l.at l.digits;
}

abbrev pub decreases-loop-rest : goal.decreases-loop-rest
decreases-loop-rest l = l.rest
