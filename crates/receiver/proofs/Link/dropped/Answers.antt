-- `receiver::Link::dropped` meets its contract. Assumes nothing.
use Rattle.receiver.proofs.Dropped.{drops_none, drops_gap, drops_null, drops_first, drops_fits, drops_over}
use Rattle.receiver.proofs.Link.dropped.Goals as goal

pub returns-then-not-self : goal.returns-then-not-self
returns-then-not-self c = search drops_none

pub returns-then-not-is_kept : goal.returns-then-not-is_kept
returns-then-not-is_kept c = search drops_gap

pub returns-then-is_null : goal.returns-then-is_null
returns-then-is_null c = search drops_null

pub returns-then-head : goal.returns-then-head
returns-then-head c = search drops_first

pub returns-then-all-le4096 : goal.returns-then-all-le4096
returns-then-all-le4096 c = search drops_fits

pub returns-else-all-le4096 : goal.returns-else-all-le4096
returns-else-all-le4096 c = search drops_over
