-- `record::is_before` meets its contract. Assumes nothing.
use Rattle.std.proofs.Common.{rules}
use Rattle.record.proofs.Ways.{before_by}
use Rattle.record.proofs.is_before.Goals as goal

pub returns : goal.returns
returns c = before_by c.args.t _ _ c.is_none_or.ensures c.args.a (λ x q. search rules)
