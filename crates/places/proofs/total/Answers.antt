-- `places::total` meets its contract. Assumes nothing.
use mathlib.Core.Path.{◌≡◌}
use borrow.Author.Rules.{rules}
use Rattle.std.specs.Prelude.{sum}
use Rattle.std.proofs.Math.Facts.{Fits-lt-pow}
use Rattle.places.proofs.Placing.{small_sum}
use Rattle.places.proofs.total.Goals as goal

pub returns-clause-most : goal.returns-clause-most
returns-clause-most c =
    let e : c.sum.result ≡ sum c.args.lengths.now = search rules in
    small_sum c.args.lengths.now (λ k. Fits-lt-pow (c.type_inv.lengths k)) c.requires _ e
