-- `sdc::of_value` meets its contract. Assumes nothing.
use Rattle.std.proofs.Common.{rules}
use borrow.Author.Tests.{tests}
use mathlib.Core.Path.{◌≡◌}
use lib.ListN.{length}
use Rattle.sdc.proofs.Ways.{of_none, of_some}
use Rattle.sdc.proofs.of_value.Goals as goal

pub returns-then-is_empty : goal.returns-then-is_empty
returns-then-is_empty c =
    let e : length c.args.value.now ≡ 0 = search (rules, tests) in
    of_none _ _ e c.absent.ensures

pub returns : goal.returns
returns c =
    let z : length c.args.value.now ≡ 0 → ⊥ = search (rules, tests) in
    of_some c.args.value.now _ _ _ z c.saturating_sub.ensures c.min-size.ensures c.copy.ensures
