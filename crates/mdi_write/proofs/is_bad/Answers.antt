-- `mdi_write::is_bad` meets its contract. Assumes nothing.
use Rattle.std.proofs.Common.{rules}
use Rattle.clock.proofs.Told.{wrong_of}
use Rattle.mdi_write.proofs.Values.{bad_by}
use Rattle.mdi_write.proofs.is_bad.Goals as goal

pub returns : goal.returns
returns c = bad_by c.args.time _ _ c.is_some_and.ensures (λ t q. search (q, wrong_of, rules))
