-- `receiver::link_with` meets its contract. Assumes nothing.
use Rattle.receiver.proofs.Links.{with_open, with_none}
use Rattle.receiver.proofs.link_with.Goals as goal

pub returns-then-begun : goal.returns-then-begun
returns-then-begun c = search with_open

pub returns-else-begun : goal.returns-else-begun
returns-else-begun c = search with_none
