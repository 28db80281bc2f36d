-- `record::check_time` meets its contract. Assumes nothing.
use Rattle.std.proofs.Common.{rules}
use Rattle.record.proofs.Ways.{tests_none, tests_given}
use Rattle.record.proofs.check_time.Goals as goal

pub returns-in-None : goal.returns-in-None
returns-in-None c = search tests_none

pub returns-in-Some : goal.returns-in-Some
returns-in-Some c = search (tests_given, rules)
