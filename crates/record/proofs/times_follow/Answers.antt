-- `record::times_follow` meets its contract. Assumes nothing.
use Rattle.std.proofs.Common.{rules}
use Rattle.record.proofs.Ways.{follow_by}
use Rattle.record.proofs.times_follow.Goals as goal

pub returns : goal.returns
returns c = follow_by c.args.s _ _ c.is_none_or.ensures c.args.t (λ x q. search rules)
