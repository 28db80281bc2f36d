-- What a block handed over gives, in 01's terms ("Numbers given back"), and what the value of the code says in them. Assumes nothing.
use Rattle.std.specs.Prelude.{ℕ, Bool}
use Rattle.std.specs.Option.{is_some, unwrap_or}
use Rattle.walk.specs.declared.Walk.{Walk}
use Rattle.walk.specs.declared.Fed as fed

-- the walk after a block, the bytes taken of it, and where an entry is whole the size of its packet
pub record Fed : Type 0 where
  pub walk : Walk
  pub taken : ℕ
  pub whole : Bool
  pub size : ℕ

abbrev pub fed_in : fed.Fed → Fed
fed_in f = record { walk = f.walk; taken = f.taken; whole = is_some f.packet; size = unwrap_or f.packet 0 }
