-- `record::none` meets its contract. Assumes nothing.
use Rattle.record.proofs.Empty.{none_is}
use Rattle.record.proofs.none.Goals as goal

pub returns : goal.returns
returns c = search none_is
