-- `sender::Sender::filler_at` meets its contract. Assumes nothing.
use mathlib.Core.Path.{refl}
use Rattle.sender.proofs.Framing.{filler_at_is}
use Rattle.sender.proofs.Sender.filler_at.Goals as goal

pub returns : goal.returns
returns c = let both = filler_at_is _ _ _ c.args.store.now c.args.out.now _ _ _ c.requires.0 c.requires.1 refl c.fresh-q.ensures _ _ c.row-o.ensures.value c.row-o.ensures.dst_after in record { value = both.0; out_after = both.1 }
