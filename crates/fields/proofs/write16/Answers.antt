-- `fields::write16` meets its contract. Assumes nothing.
use Rattle.fields.proofs.write16.Goals as goal

pub returns : goal.returns
returns c = c.write.ensures
