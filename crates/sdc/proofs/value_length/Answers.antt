-- `sdc::value_length` meets its contract. Assumes nothing.
use Rattle.std.proofs.Common.{rules}
use mathlib.Core.Path.{◌≡◌}
use lib.ListN.{length}
use Rattle.sdc.proofs.Writing.{length_by}
use Rattle.sdc.proofs.value_length.Goals as goal

pub returns : goal.returns
returns c =
    let n : length c.args.s.body ≡ 1024 = search rules in
    length_by c.args.s _ _ n c.map_or.ensures (λ x q. search rules)
