-- `host::keshgurvat_receiver_fresh` meets its contract. Assumes nothing. Written out for the edits' sake, as the sender's.
use Rattle.receiver.specs.Receiver.{fresh}
use Rattle.host.proofs.keshgurvat_receiver_fresh.Goals as goal

pub returns : goal.returns
unfolding fresh
returns c = cc
